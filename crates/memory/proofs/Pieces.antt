-- A slice that is cut into pieces of one length.
use Rattle.std.proofs.Common.{◌≡◌, ℕ, zero, suc, ◌+◌, ◌*◌, ◌<◌, ◌≤◌, min, ◌⊎◌, inl, inr, ⊎_elim, Bool, true, false, List, [], ◌∷◌, ◌++◌, length, take, drop, get_or, refl, ap, sym, subst, ◌∙◌, arith, MatchBool, ◌↔◌, IsTrue, length-append, length-drop}
use Rattle.std.proofs.lemmas.Bool.{cases_lt, both_ways}
use Rattle.std.proofs.Math.Nat.{mul-le-mul_right}
use Rattle.std.proofs.lemmas.List.{nil_from_length, take_all, drop_all, append-nil, drop-drop}
use Rattle.std.proofs.Math.Seq.{take-append_seam, drop-append_seam}
use Rattle.std.proofs.lemmas.Iterator.{YieldsList}
use Rattle.std.proofs.lemmas.Iterator.Splits.{YieldsList-from_shown_while}
use Rattle.std.specs.Slice.Iter.{chunks_rest, chunks_size, chunks_steps}
use Rattle.std.specs.List.{AllWithin, HoldsAt}

module _ {X : Type 0} where
  -- at most k pieces of n elements, the last of which may be short
  abbrev pub pieces : ℕ → ℕ → List X → List (List X)
  pieces zero n xs = []
  pieces (suc k) n [] = []
  pieces (suc k) n (x ∷ xs) = take n (x ∷ xs) ∷ pieces k n (drop n (x ∷ xs))

  shorter : (n : ℕ) (x : X) (xs : List X) (k : ℕ) → 0 < n → length (x ∷ xs) ≤ suc k → length (drop n (x ∷ xs)) ≤ k
  shorter n x xs k pos l = omega (arith, length-drop n (x ∷ xs))

  pub enough : (k j n : ℕ) (xs : List X) → 0 < n → length xs ≤ k → length xs ≤ j → pieces k n xs ≡ pieces j n xs
  enough zero zero n xs pos l m = refl
  enough zero (suc j) n [] pos l m = refl
  enough zero (suc j) n (x ∷ xs) pos l m = absurd (omega arith)
  enough (suc k) zero n [] pos l m = refl
  enough (suc k) zero n (x ∷ xs) pos l m = absurd (omega arith)
  enough (suc k) (suc j) n [] pos l m = refl
  enough (suc k) (suc j) n (x ∷ xs) pos l m = ap (λ ps. take n (x ∷ xs) ∷ ps) (enough k j n (drop n (x ∷ xs)) pos (shorter n x xs k pos l) (shorter n x xs j pos m))

  pub first_pieces : (r k n : ℕ) (xs : List X) → 0 < n → length xs ≤ k → take r (pieces k n xs) ≡ pieces r n xs
  first_pieces zero k n xs pos l = refl
  first_pieces (suc r) zero n [] pos l = refl
  first_pieces (suc r) zero n (x ∷ xs) pos l = absurd (omega arith)
  first_pieces (suc r) (suc k) n [] pos l = refl
  first_pieces (suc r) (suc k) n (x ∷ xs) pos l = ap (λ ps. take n (x ∷ xs) ∷ ps) (first_pieces r k n (drop n (x ∷ xs)) pos (shorter n x xs k pos l))

  opened : (n : ℕ) (zs : List X) → 0 < n → 0 < length zs → pieces (length zs) n zs ≡ take n zs ∷ pieces (length (drop n zs)) n (drop n zs)
  opened n [] pos l = absurd (omega arith)
  opened n (z ∷ zs) pos l = ap (λ ps. take n (z ∷ zs) ∷ ps) (enough (length zs) (length (drop n (z ∷ zs))) n (drop n (z ∷ zs)) pos (shorter n z zs (length zs) pos (omega arith)) (omega arith))

  cut : (n : ℕ) (x r : List X) → length x ≡ min n (length (x ++ r)) → (take n (x ++ r) ≡ x) × (drop n (x ++ r) ≡ r)
  cut n x r l = ⊎_elim
      (λ (few : length r ≡ 0).
      let e : r ≡ [] = nil_from_length r few in
      let h : length (x ++ []) ≤ n = omega (arith, l, length-append x r, length-append x []) in
      rw e (take_all n (x ++ []) h ∙ append-nil x, drop_all n (x ++ []) h))
      (λ (full : length x ≡ n). rw (← full) (take-append_seam x r, drop-append_seam x r))
      (which n x r l)
    where
      which : (n : ℕ) (x r : List X) → length x ≡ min n (length (x ++ r)) → (length r ≡ 0) ⊎ (length x ≡ n)
      which n x r l = ⊎_elim (λ h. inr (omega (arith, length-append x r))) (λ h. inl (omega (arith, length-append x r))) (cases_lt n (length (x ++ r)))

  pub next : (n : ℕ) (x r : List X) → 0 < n → 0 < length (x ++ r) → length x ≡ min n (length (x ++ r)) → pieces (length (x ++ r)) n (x ++ r) ≡ x ∷ pieces (length r) n r
  next n x r pos some l =
      let c = cut n x r l in
      opened n (x ++ r) pos some ∙ rw (c.0, c.1) refl

  pub YieldsList-from_chunks : {s : _} (n : ℕ) (xs : List X) → 0 < n → chunks_size s ≡ n → chunks_rest s ≡ xs → YieldsList chunks_steps (λ x. x.now) s (pieces (length xs) n xs)
  YieldsList-from_chunks {s} n xs pos size rest =
      let road = YieldsList-from_shown_while (chunks_steps {A = X}) (λ x. x.now) (λ s. pieces (length (chunks_rest s)) n (chunks_rest s)) (λ s. chunks_size s ≡ n)
      (λ s t p h. ap (λ zs. length (pieces (length zs) n zs)) (nil_from_length (chunks_rest s) h.1.0))
      (λ s x t p h. (h.0 ∙ p, rw (h.1.0) (next n x.now (chunks_rest t) pos (rw h.1.0 at h.1.2) (omega (arith, p, h.1.1, ap length h.1.0)))))
      s size in
      subst (λ zs. YieldsList chunks_steps (λ x. x.now) s (pieces (length zs) n zs)) rest road

  pub piece_at : (k n i : ℕ) (xs : List X) (d : List X) → 0 < n → i < k → i * n < length xs → get_or (pieces k n xs) i d ≡ take n (drop (i * n) xs)
  piece_at zero n i xs d pos l m = absurd (omega arith)
  piece_at (suc k) n i [] d pos l m = absurd (omega arith)
  piece_at (suc k) n zero (x ∷ xs) d pos l m = let e : 0 * n ≡ 0 = omega arith in rw e refl
  piece_at (suc k) n (suc i) (x ∷ xs) d pos l m =
      let e : suc i * n ≡ n + i * n = omega arith in
      rw e (piece_at k n i (drop n (x ∷ xs)) d pos (omega arith) (omega (arith, e, length-drop n (x ∷ xs))) ∙ ap (take n) (drop-drop (i * n) n (x ∷ xs)))

  pub length_pieces : (k n : ℕ) (xs : List X) → 0 < n → k * n ≤ length xs → length (pieces k n xs) ≡ k
  length_pieces zero n xs pos l = refl
  length_pieces (suc k) n [] pos l = absurd (omega arith)
  length_pieces (suc k) n (x ∷ xs) pos l = ap suc (length_pieces k n (drop n (x ∷ xs)) pos (omega (arith, length-drop n (x ∷ xs))))

  -- what a test of each of the first k whole pieces answered
  pub told : (P : List X → Type 0) (k n : ℕ) (xs : List X) (r : Bool) → 0 < n → k * n ≤ length xs → let ys = take k (pieces (length xs) n xs) in
      MatchBool r (AllWithin P ys 0 (length ys)) ((i : ℕ) × (i < length ys) × HoldsAt (λ y. P y → ⊥) ys i) → IsTrue r ↔ ((i : ℕ) → i < k → P (take n (drop (i * n) xs)))
  told P k n xs r pos l f =
      let same : take k (pieces (length xs) n xs) ≡ pieces k n xs = first_pieces k (length xs) n xs pos (omega arith) in
      told_of r (subst (λ ys. MatchBool r (AllWithin P ys 0 (length ys)) ((i : ℕ) × (i < length ys) × HoldsAt (λ y. P y → ⊥) ys i)) same f)
    where
      long : length (pieces k n xs) ≡ k
      long = length_pieces k n xs pos l

      here : (i : ℕ) → i < k → get_or (pieces k n xs) i [] ≡ take n (drop (i * n) xs)
      here i h = piece_at k n i xs [] pos h (inside i h)
        where
          inside : (i : ℕ) → i < k → i * n < length xs
          inside i h = omega (arith, mul-le-mul_right {m = suc i} {n = k} n (omega arith))

      told_of : (r : Bool) → MatchBool r (AllWithin P (pieces k n xs) 0 (length (pieces k n xs))) ((i : ℕ) × (i < length (pieces k n xs)) × HoldsAt (λ y. P y → ⊥) (pieces k n xs) i) → IsTrue r ↔ ((i : ℕ) → i < k → P (take n (drop (i * n) xs)))
      told_of true f = (λ _ i h. subst P (here i h) (f i [] (omega arith) (omega (arith, long))), λ _. refl)
      told_of false f = (λ t. absurd (both_ways false refl t), λ all. absurd (f.2 [] (subst P (sym (here f.0 (omega (arith, long, f.1)))) (all f.0 (omega (arith, long, f.1))))))
