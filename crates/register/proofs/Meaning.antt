-- What the tests over a register's numbers say.
use Rattle.std.proofs.Common.{◌≡◌, ℕ, ◌+◌, ◌<◌, Bool, not, ◌&&◌, eqb, ◌≢◌, List, length, get_or, Decides, sym, refl, ap, ◌∙◌, ⊎_elim, arith, below_more}
use Rattle.register.specs.Numbers.{Entered, Unborne, Distinct, every, knows, distinct}
use Rattle.std.proofs.lemmas.List.{get_or_read}
use Rattle.std.proofs.lemmas.Bool.{cases_order}
use Rattle.std.proofs.lemmas.Bool.Decides.{Decides-and, Decides-not, Decides-like, Decides-eqb, Decides-below_and, Decides-below_or}

pub decides_every : (n : ℕ) (p : ℕ → Bool) (P : ℕ → Type 0) → ((k : ℕ) → Decides (p k) (P k)) → Decides (every n p) ((k : ℕ) → k < n → P k)
decides_every n p P each = Decides-below_and p P (λ i. every i p) each refl (λ i. refl) n

-- a number is known where some place bears it, and unknown where none does
pub decides_entered : (used : ℕ) (f : ℕ → ℕ) (n : ℕ) → Decides (knows used f n) (Entered used f n)
unfolding knows
decides_entered used f n = Decides-below_or (λ k. eqb (f k) n) (λ k. f k ≡ n) (λ j. knows j f n) (λ k. Decides-eqb (f k) n) refl (λ j. refl) used

pub decides_unborne : (used : ℕ) (f : ℕ → ℕ) (n : ℕ) → Decides (not (knows used f n)) (Unborne n f used)
decides_unborne used f n =
    Decides-like (not (knows used f n)) (λ none k l e. none (k, l, e)) (λ none s. none s.0 s.1 s.2)
    (Decides-not (knows used f n) (decides_entered used f n))

pub decides_distinct : (f : ℕ → ℕ) (n : ℕ) → Decides (distinct f n) (Distinct f n)
unfolding Distinct distinct
decides_distinct f n =
    decides_every n (λ k. not (eqb (f k) 0) && not (knows k f (f k))) (λ k. (f k ≢ 0) × Unborne (f k) f k)
    (λ k. Decides-and (not (eqb (f k) 0)) (not (knows k f (f k))) (Decides-not (eqb (f k) 0) (Decides-eqb (f k) 0)) (decides_unborne k f (f k)))

-- one number, one place
pub apart : (f : ℕ → ℕ) (n : ℕ) → Distinct f n → (i j : ℕ) → i < n → j < n → f i ≡ f j → i ≡ j
unfolding Distinct
apart f n all i j l k same = ⊎_elim (λ is. is) (⊎_elim (λ lt. absurd ((all j k).1 i lt same)) (λ gt. absurd ((all i l).1 j gt (sym same)))) (cases_order i j)

-- the number that the code read at place i
pub at_read : {X : Type 0} (f : X → ℕ) (xs : List X) (i : ℕ) (x : X) (n : ℕ) (d : X) → i < length xs → x ≡ get_or xs i x → n ≡ f x → f (get_or xs i d) ≡ n
at_read f xs i x n d l is e = ap f (sym (get_or_read xs i x l is d)) ∙ sym e

-- A number entered in the place after the last: f' is f below place k, and bears a new number there.
module _ (f f' : ℕ → ℕ) (k : ℕ) (below : (i : ℕ) → i < k → f' i ≡ f i) where
  pub entered_more : (n : ℕ) → Entered k f n → Entered (k + 1) f' n
  entered_more n s = (s.0, omega arith, below s.0 s.1 ∙ s.2)

  pub distinct_more : Distinct f k → f' k ≢ 0 → Unborne (f' k) f k → Distinct f' (k + 1)
  unfolding Distinct
  distinct_more all ne new =
      below_more _ k
      (λ i l. (λ z. (all i l).0 (sym (below i l) ∙ z), λ j h s. (all i l).1 j h (sym (below j (omega arith)) ∙ s ∙ below i l)))
      (ne, λ j h s. new j h (sym (below j h) ∙ s))

-- the same numbers in the same places
pub distinct_same : (f f' : ℕ → ℕ) (n : ℕ) → ((i : ℕ) → f' i ≡ f i) → Distinct f n → Distinct f' n
unfolding Distinct
distinct_same f f' n same all i l = (λ z. (all i l).0 (sym (same i) ∙ z), λ j h s. (all i l).1 j h (sym (same j) ∙ s ∙ same i))
