-- What a list that is rewritten by place holds.
use Rattle.std.proofs.Common.{◌≡◌, ℕ, zero, suc, ◌+◌, ◌*◌, ◌<◌, ◌≤◌, ◌-◌, cond, ◌≢◌, List, [], ◌∷◌, ◌++◌, length, take, drop, replicate, get_or, sym, refl, ap, ◌∙◌, ⊎_elim, add-zero, zero-add, arith}
use Rattle.memory.specs.Rows.{renewed_from, renewed, in_row, row_filled}
use Rattle.std.proofs.lemmas.List.{same_lists, get_or_append_left, get_or-append_right, get_or-take, get_or-drop, get_or-replicate, length-replicate, length-take, length-drop, length-append}
use Rattle.std.proofs.lemmas.Bool.{cases_lt, cond-true, cond-false}
use Rattle.std.proofs.lemmas.Bool.Decides.{nat_tests}

length_renewed_from : {X : Type 0} (k : ℕ) (f : ℕ → X → X) (xs : List X) → length (renewed_from k f xs) ≡ length xs
length_renewed_from k f [] = refl
length_renewed_from k f (x ∷ xs) = ap suc (length_renewed_from (suc k) f xs)

pub length_renewed : {X : Type 0} (f : ℕ → X → X) (xs : List X) → length (renewed f xs) ≡ length xs
unfolding renewed
length_renewed f xs = length_renewed_from 0 f xs

get_or_renewed_from : {X : Type 0} (k : ℕ) (f : ℕ → X → X) (xs : List X) (i : ℕ) (d : X) → i < length xs → get_or (renewed_from k f xs) i d ≡ f (k + i) (get_or xs i d)
get_or_renewed_from k f [] i d l = absurd (omega arith)
get_or_renewed_from k f (x ∷ xs) zero d l = ap (λ n. f n x) (sym (add-zero k))
get_or_renewed_from k f (x ∷ xs) (suc i) d l =
    let e : suc k + i ≡ k + suc i = omega arith in
    get_or_renewed_from (suc k) f xs i d (omega arith) ∙ ap (λ n. f n (get_or xs i d)) e

pub get_or_renewed : {X : Type 0} (f : ℕ → X → X) (xs : List X) (i : ℕ) (d : X) → i < length xs → get_or (renewed f xs) i d ≡ f i (get_or xs i d)
unfolding renewed
get_or_renewed f xs i d l = get_or_renewed_from 0 f xs i d l ∙ ap (λ n. f n (get_or xs i d)) (zero-add i)

module _ {X : Type 0} (i : ℕ) (v : X) (xs : List X) where
  -- the value written over the first `count` quarter-hours of the row
  pub row_put : (count : ℕ) → i * 100 + count ≤ length xs → take (i * 100) xs ++ (replicate count v ++ drop count (drop (i * 100) xs)) ≡ row_filled i count v xs
  row_put count room = same_lists _ _ (lengths ∙ sym (length_renewed (λ k x. cond (in_row i count k) v x) xs)) places
    where
      front : List X
      front = take (i * 100) xs

      back : List X
      back = drop count (drop (i * 100) xs)

      front_long : length front ≡ i * 100
      front_long = omega (arith, length-take (i * 100) xs)

      back_long : length back + count + i * 100 ≡ length xs
      back_long = omega (arith, length-drop count (drop (i * 100) xs), length-drop (i * 100) xs)

      row_long : length (replicate count v) ≡ count
      row_long = length-replicate count v

      lengths : length (front ++ (replicate count v ++ back)) ≡ length xs
      lengths = omega (arith, length-append front (replicate count v ++ back), length-append (replicate count v) back, front_long, back_long, row_long)

      filled : (k : ℕ) (d : X) → k < length xs → get_or (row_filled i count v xs) k d ≡ cond (in_row i count k) v (get_or xs k d)
      filled k d h = get_or_renewed (λ k x. cond (in_row i count k) v x) xs k d h

      places : (k : ℕ) (d : X) → k < length (front ++ (replicate count v ++ back)) → get_or (front ++ (replicate count v ++ back)) k d ≡ get_or (row_filled i count v xs) k d
      places k d h =
          ⊎_elim
          (λ (l : k < i * 100).
          get_or_append_left front _ d k (omega (arith, front_long)) ∙ get_or-take (i * 100) xs k d l ∙
          sym (filled k d (omega (arith, lengths)) ∙ cond-false (in_row i count k) _ _ (grind (arith, nat_tests))))
          (λ (g : i * 100 ≤ k).
          get_or-append_right front _ (i * 100) k d front_long g ∙
          ⊎_elim
          (λ (l : k - i * 100 < count).
          get_or_append_left (replicate count v) back d (k - i * 100) (omega (arith, row_long)) ∙ get_or-replicate count (k - i * 100) v d l ∙
          sym (filled k d (omega (arith, lengths)) ∙ cond-true (in_row i count k) _ _ (grind (arith, nat_tests))))
          (λ (m : count ≤ k - i * 100).
          get_or-append_right (replicate count v) back count (k - i * 100) d row_long m ∙ get_or-drop count (drop (i * 100) xs) (k - i * 100 - count) d ∙
          get_or-drop (i * 100) xs (count + (k - i * 100 - count)) d ∙
          (let e : i * 100 + (count + (k - i * 100 - count)) ≡ k = omega arith in ap (λ n. get_or xs n d) e) ∙
          sym (filled k d (omega (arith, lengths)) ∙ cond-false (in_row i count k) _ _ (grind (arith, nat_tests))))
          (cases_lt (k - i * 100) count))
          (cases_lt k (i * 100))

  -- what stands in the row, and what in another
  pub row_at : (count q : ℕ) (d : X) → q < count → i * 100 + q < length xs → get_or (row_filled i count v xs) (i * 100 + q) d ≡ v
  row_at count q d l room =
      get_or_renewed (λ k x. cond (in_row i count k) v x) xs (i * 100 + q) d room ∙ cond-true (in_row i count (i * 100 + q)) _ _ (grind (arith, nat_tests))

  pub row_other : (count j q : ℕ) (d : X) → count ≤ 100 → q < 100 → j ≢ i → j * 100 + q < length xs → get_or (row_filled i count v xs) (j * 100 + q) d ≡ get_or xs (j * 100 + q) d
  row_other count j q d c l ne room =
      get_or_renewed (λ k x. cond (in_row i count k) v x) xs (j * 100 + q) d room ∙ cond-false (in_row i count (j * 100 + q)) _ _ (grind (arith, nat_tests))
