-- What holds of the part of a list that is in use, said of its places.
use Rattle.std.proofs.Common.{None, ◌≡◌, ℕ, ◌+◌, ◌*◌, ◌<◌, ◌≤◌, Bool, true, List, length, take, drop, get_or, All, subst, sym, ◌∙◌, arith, length-take, length-drop}
use Rattle.std.proofs.lemmas.List.{get_or-take, get_or-drop, get_or_default}
use Rattle.std.proofs.lemmas.Bool.Decides.{nat_tests}
use Rattle.memory.specs.declared.types.Extent.{Extent}
use Rattle.memory.specs.Held.{Held, no_outside, no_mills}
use Rattle.memory.specs.Limits.{reading_fits, outside_fits, amount_fits}
use Rattle.memory.specs.Order.{Sized, FiguresPass}

module _ {X : Type 0} (P : X → Type 0) (xs : List X) where
  -- the first n places
  pub of_part : (n : ℕ) (d : X) → n ≤ length xs → All P (take n xs) → (i : ℕ) → i < n → P (get_or xs i d)
  of_part n d l all i h = subst P (get_or-take n xs i d h) (all i d (omega (arith, length-take n xs)))

  pub on_part : (n : ℕ) (d : X) → n ≤ length xs → ((i : ℕ) → i < n → P (get_or xs i d)) → All P (take n xs)
  on_part n d l each k d' h =
      let k' : k < n = omega (arith, length-take n xs) in
      subst P (get_or_default xs k d d' (omega arith) ∙ sym (get_or-take n xs k d' k')) (each k k')

  -- the first w places of the row at s
  row_at : (w s k : ℕ) (d : X) → w ≤ 100 → k < w → get_or (take w (take 100 (drop s xs))) k d ≡ get_or xs (s + k) d
  row_at w s k d l h = get_or-take w (take 100 (drop s xs)) k d h ∙ get_or-take 100 (drop s xs) k d (omega arith) ∙ get_or-drop s xs k d

  row_length : (w s : ℕ) → w ≤ 100 → s + 100 ≤ length xs → length (take w (take 100 (drop s xs))) ≡ w
  row_length w s l m = omega (arith, length-take w (take 100 (drop s xs)), length-take 100 (drop s xs), length-drop s xs)

  pub of_row : (w s : ℕ) (d : X) → w ≤ 100 → s + 100 ≤ length xs → All P (take w (take 100 (drop s xs))) → (q : ℕ) → q < w → P (get_or xs (s + q) d)
  of_row w s d l m all q h = subst P (row_at w s q d l h) (all q d (omega (arith, row_length w s l m)))

  pub on_row : (w s : ℕ) (d : X) → w ≤ 100 → s + 100 ≤ length xs → ((q : ℕ) → q < w → P (get_or xs (s + q) d)) → All P (take w (take 100 (drop s xs)))
  on_row w s d l m each k d' h =
      let k' : k < w = omega (arith, row_length w s l m) in
      subst P (get_or_default xs (s + k) d d' (omega arith) ∙ sym (row_at w s k d' l k')) (each k k')

-- the rows of the records in use
abbrev pub RowsFit : {X : Type 0} → (X → Bool) → List X → ℕ → ℕ → Type 0
RowsFit fits xs rows w = (i : ℕ) → i < rows → All (λ x. fits x ≡ true) (take w (take 100 (drop (i * 100) xs)))

-- so many quarter-hours as the day has
module _ (e : Extent) (m : Held) (s : Sized e m) (w : ℕ) (is : w ≡ e.day.count) where
  count : w ≤ 100
  count = let ok = e.day.ok in rw is (grind (arith, nat_tests))

  pub figures_pass : RowsFit reading_fits m.readings e.points w → RowsFit outside_fits m.outside e.parties w
      → All (λ x. amount_fits x ≡ true) (take e.parties m.amounts) → All (λ x. amount_fits x ≡ true) (take e.parties m.billed) → FiguresPass e m
  figures_pass r o a b = record {
    readings_fit = λ x h q k. of_row (λ x. reading_fits x ≡ true) m.readings w (x * 100) None count (omega (arith, s.readings, s.points)) (r x h) q (omega (arith, is));
    outside_fit = λ i h q k. of_row (λ x. outside_fits x ≡ true) m.outside w (i * 100) no_outside count (omega (arith, s.outside, s.parties)) (o i h) q (omega (arith, is));
    amounts_fit = of_part (λ x. amount_fits x ≡ true) m.amounts e.parties no_mills (omega (arith, s.amounts, s.parties)) a;
    billed_fit = of_part (λ x. amount_fits x ≡ true) m.billed e.parties no_mills (omega (arith, s.billed, s.parties)) b;
  }

  pub readings_rows : FiguresPass e m → RowsFit reading_fits m.readings e.points w
  readings_rows f x h = on_row (λ x. reading_fits x ≡ true) m.readings w (x * 100) None count (omega (arith, s.readings, s.points)) (λ q k. f.readings_fit x h q (omega (arith, is)))

  pub outside_rows : FiguresPass e m → RowsFit outside_fits m.outside e.parties w
  outside_rows f i h = on_row (λ x. outside_fits x ≡ true) m.outside w (i * 100) no_outside count (omega (arith, s.outside, s.parties)) (λ q k. f.outside_fit i h q (omega (arith, is)))

  pub amounts_part : FiguresPass e m → All (λ x. amount_fits x ≡ true) (take e.parties m.amounts)
  amounts_part f = on_part (λ x. amount_fits x ≡ true) m.amounts e.parties no_mills (omega (arith, s.amounts, s.parties)) f.amounts_fit

  pub billed_part : FiguresPass e m → All (λ x. amount_fits x ≡ true) (take e.parties m.billed)
  billed_part f = on_part (λ x. amount_fits x ≡ true) m.billed e.parties no_mills (omega (arith, s.billed, s.parties)) f.billed_fit
