-- How many of a list's first elements pass a test.
use Rattle.std.proofs.Common.{◌≡◌, ℕ, zero, suc, ◌+◌, ◌≤◌, Bool, true, false, cond, List, [], ◌∷◌, length, take, get_or, refl, ap, sym, ◌∙◌, arith}
use Rattle.std.specs.List.{sum_by}
use Rattle.std.proofs.lemmas.List.Sums.{sum_by-cons}
use Rattle.memory.specs.Pending.{how_many}

at_most_one : (b : Bool) → cond b 1 0 ≤ 1
at_most_one true = omega arith
at_most_one false = omega arith

pub at_most_all : (n : ℕ) (p : ℕ → Bool) → how_many n p ≤ n
at_most_all zero p = omega arith
at_most_all (suc n) p = omega (arith, at_most_all n p, at_most_one (p n))

module _ {X : Type 0} (p : X → Bool) (d : X) where
  -- one element before the others
  first : (x : X) (xs : List X) (n : ℕ) → how_many (suc n) (λ j. p (get_or (x ∷ xs) j d)) ≡ cond (p x) 1 0 + how_many n (λ j. p (get_or xs j d))
  first x xs zero = omega arith
  first x xs (suc n) = omega (arith, first x xs n)

  pub counted : (xs : List X) (n : ℕ) → n ≤ length xs → sum_by (λ x. cond (p x) 1 0) (take n xs) ≡ how_many n (λ j. p (get_or xs j d))
  counted xs zero l = refl
  counted [] (suc n) l = absurd (omega arith)
  counted (x ∷ xs) (suc n) l = sum_by-cons (λ x. cond (p x) 1 0) x (take n xs) ∙ ap (λ k. cond (p x) 1 0 + k) (counted xs n (omega arith)) ∙ sym (first x xs n)
