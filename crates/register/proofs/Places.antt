-- What the place of a number says.
use Rattle.std.proofs.Common.{◌≡◌, ℕ, zero, suc, ◌<◌, min, Bool, true, false, cond, ◌||◌, eqb, ◌≢◌, List, length, take, get_or, is_some, Some, None, Option, sym, refl, ap, subst, ◌∙◌, ⊎_elim, arith, length-take, MatchOption}
use Rattle.std.proofs.lemmas.Bool.{cases_order, cases_eq, eqb-true, eqb-false}
use Rattle.std.proofs.lemmas.List.{get_or-take}
use Rattle.std.specs.List.{AllWithin, HoldsAt}
use Rattle.register.specs.Entering.{numbers}
use Rattle.register.specs.Numbers.{place_of, or_else, knows, Unborne, FirstAt}

-- one place more
step : (h : ℕ → ℕ) (n i : ℕ) (o : Option ℕ) (b : Bool) → eqb (h i) n ≡ b → MatchOption o (Unborne n h i) (FirstAt n h i) → MatchOption (or_else o (cond b (Some i) None)) (Unborne n h (suc i)) (FirstAt n h (suc i))
step h n i (Some k) b e f = (omega arith, f.1, f.2)
step h n i None true e f = (omega arith, eqb-true (h i) n e, f)
step h n i None false e f = λ k l. ⊎_elim (λ is same. eqb-false (h i) n e (ap h (sym is) ∙ same)) (λ ne. f k (omega arith)) (cases_eq k i)

pub place_found : (used : ℕ) (h : ℕ → ℕ) (n : ℕ) → MatchOption (place_of used h n) (Unborne n h used) (FirstAt n h used)
unfolding place_of
place_found zero h n = λ k l. absurd (omega arith)
place_found (suc i) h n = step h n i (place_of i h n) (eqb (h i) n) refl (place_found i h n)

-- there is just one such answer
pub same_place : (used : ℕ) (h : ℕ → ℕ) (n : ℕ) (o p : Option ℕ) → MatchOption o (Unborne n h used) (FirstAt n h used) → MatchOption p (Unborne n h used) (FirstAt n h used) → o ≡ p
same_place used h n None None f g = refl
same_place used h n None (Some j) f g = absurd (f j g.0 g.1)
same_place used h n (Some i) None f g = absurd (g i f.0 f.1)
same_place used h n (Some i) (Some j) f g =
    ⊎_elim (ap Some) (⊎_elim (λ l. absurd (g.2 i l f.1)) (λ l. absurd (f.2 j l g.1))) (cases_order i j)

one_more : (o : Option ℕ) (b k : Bool) (i : ℕ) → is_some o ≡ k → is_some (or_else o (cond b (Some i) None)) ≡ (b || k)
one_more (Some j) true k i e = refl
one_more (Some j) false k i e = e
one_more None true k i e = refl
one_more None false k i e = e

-- a number has a place where it is known
pub known_place : (used : ℕ) (f : ℕ → ℕ) (n : ℕ) → is_some (place_of used f n) ≡ knows used f n
unfolding knows place_of
known_place zero f n = refl
known_place (suc i) f n = one_more (place_of i f n) (eqb (f i) n) (knows i f n) i (known_place i f n)

-- what a search over the records in use found, said of their numbers
module _ {R : Type 0} (numeral : R → ℕ) (unset : R) (n : ℕ) (xs : List R) (used : ℕ) where
  abbrev ys : List R
  ys = take used xs

  in_front : (k : ℕ) → k < min used (length xs) → numbers numeral unset xs k ≡ numeral (get_or ys k unset)
  in_front k l = ap numeral (sym (get_or-take used xs k unset (omega arith)))

  -- what the search answered; and the same, said of the numbers below a bound
  abbrev Run : Option ℕ → Type 0
  Run o = MatchOption o (AllWithin (λ r. numeral r ≢ n) ys 0 (length ys)) (λ i. (i < length ys) × HoldsAt (λ r. numeral r ≡ n) ys i × AllWithin (λ r. numeral r ≢ n) ys 0 i)

  abbrev Found : Option ℕ → ℕ → Type 0
  Found o bound = MatchOption o (Unborne n (numbers numeral unset xs) bound) (FirstAt n (numbers numeral unset xs) bound)

  pub searched : (o : Option ℕ) → Run o → Found o (min used (length xs))
  searched None f = λ k l s. f k unset (omega arith) (omega (arith, length-take used xs)) (sym (in_front k l) ∙ s)
  searched (Some i) f =
      let h : i < min used (length xs) = omega (arith, f.0, length-take used xs) in
      (h, in_front i h ∙ f.1 unset, λ k l s. f.2 k unset (omega arith) l (sym (in_front k (omega arith)) ∙ s))

  pub searched_to : (o : Option ℕ) → Run o → (bound : ℕ) → min used (length xs) ≡ bound → Found o bound
  searched_to o run bound same = subst (Found o) same (searched o run)
