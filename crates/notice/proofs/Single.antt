-- A notice has one written form: what is read is lawful, and the bytes are the form of its fields.
use Rattle.std.proofs.Common.{◌≡◌, ℕ, ◌/◌, ◌%◌, ◌^◌, ◌<◌, ◌≤◌, false, cond, eqb, List, [], ◌∷◌, ◌++◌, length, take, drop, replicate, Ok, Decides, sym, refl, ap, ◌∙◌, subst, arith}
use Rattle.notice.proofs.Packed.{join_high, split_join, join_whole}
use Rattle.notice.specs.declared.types.Fields.{Fields}
use Rattle.notice.specs.declared.types.Notice.{Notice}
use Rattle.notice.specs.declared.types.Trade.{Trade}
use Rattle.notice.specs.Form.{layout, listed, fields_from, packed, checked, written, notice_of, fields_of, trade_of, stated}
use Rattle.notice.specs.Lawful.{Lawful, faults, lawful, limits_of, kindless}
use Rattle.notice.specs.Packing.{Fit, Byte, total, join, split, eights, gathered, twelve, two, check_of}
use Rattle.notice.specs.Promises.{OneForm}
use Rattle.notice.specs.Reading.{all_faults, byte_faults, held_fields, reading}
use Rattle.refusal.proofs.Judging.{Passed, passed, passed_ok, passed_value, judged_then}
use Rattle.refusal.specs.Judging.{judged}
use Rattle.std.proofs.ByRecursion.{All-from_get_or, All-take, All-drop}
use Rattle.std.proofs.lemmas.List.{length-take, length-drop, take_all, take-append-drop}
use Rattle.std.proofs.lemmas.Bool.{and_parts, eqb-true, leb-true, not-false}
use Rattle.std.proofs.lemmas.Bool.Decides.{nat_tests}
use Rattle.std.specs.List.{AllByRecursion}

-- a trade that meets no fault is lawful
pub lawful_from : (quarters : ℕ) (t : Trade) → t.number ≤ 65535 → t.sender ≤ 65535 → t.partner ≤ 65535 → Passed (limits_of quarters t) → Lawful quarters t
lawful_from quarters t h k m p = grind (arith, nat_tests)

pub decides_lawful : (quarters : ℕ) (t : Trade) → Decides (lawful quarters t) (Lawful quarters t)
unfolding lawful
decides_lawful quarters t = (
  λ e.
      let p = and_parts _ _ e in
      let q = and_parts _ _ p.1 in
      let r = and_parts _ _ q.1 in
      lawful_from quarters t (leb-true _ _ q.0) (leb-true _ _ r.0) (leb-true _ _ r.1) (passed_ok tt (limits_of quarters t) p.0),
  λ l. grind (arith, nat_tests),
)

-- fields of a right kind are those of the notice that they mean
pub meant_back : (f : Fields) → kindless f ≡ false → fields_of (notice_of f) ≡ f
meant_back f k = grind (arith, nat_tests)

bytes_fit : (xs : List ℕ) → AllByRecursion Byte xs → Fit (eights xs) xs
bytes_fit [] h = tt
bytes_fit (x ∷ xs) h = (h.0, bytes_fit xs h.1)

widths : (xs : List ℕ) → eights xs ≡ replicate (length xs) 8
widths [] = refl
widths (x ∷ xs) = ap (λ ws. 8 ∷ ws) (widths xs)

module _ (k : ℕ) (xs : List ℕ) (long : length xs ≡ k) (bytes : AllByRecursion Byte xs) where
  eight : eights xs ≡ replicate k 8
  eight = widths xs ∙ ap (λ n. replicate n 8) long

  -- bytes are those of their number, which they bound
  pub spelled : split (replicate k 8) (gathered 0 xs) ≡ xs
  spelled = subst (λ ws. split ws (gathered 0 xs) ≡ xs) eight (split_join 0 (eights xs) xs (bytes_fit xs bytes))

  pub bounded : gathered 0 xs / 2 ^ total (replicate k 8) ≡ 0
  bounded = subst (λ ws. gathered 0 xs / 2 ^ total ws ≡ 0) eight (join_high 0 (eights xs) xs (bytes_fit xs bytes))

bit_forth : (d : ℕ) → d < 2 → cond (eqb d 1) 1 0 ≡ d
bit_forth d h = grind (arith, nat_tests)

-- fields that are read give back the number that they stand in
regained : (m : ℕ) → m < 2 ^ 96 → packed (fields_from (split layout m)) ≡ m
regained m h =
    ap (join 0 layout) {x = listed (fields_from (split layout m))} {y = split layout m} (rw (bit_forth (m / 2 ^ 39 % 2 ^ 1) (omega arith))) ∙ join_whole layout m h

-- bytes whose check stands after them
closed : (m : ℕ) (xs ys : List ℕ) → split twelve m ≡ xs → split two (gathered 0 ys) ≡ ys → check_of xs ≡ gathered 0 ys → checked (split twelve m) ≡ xs ++ ys
closed m xs ys d e f = ap checked d ∙ ap (λ zs. xs ++ zs) (ap (split two) f ∙ e)

cut : (bs : List ℕ) → length bs ≡ 14 → take 12 bs ++ take 2 (drop 12 bs) ≡ bs
cut bs long = let l : length (drop 12 bs) ≤ 2 = simp length-drop (omega arith) in rw (take_all 2 (drop 12 bs) l) (take-append-drop 12 bs)

pub states : (f : Fields) → stated (notice_of f) ≡ trade_of f
states f = grind (arith, nat_tests)

-- bytes that hold fields are read as these are judged
pub parsed : {A : Type 0} (g : Fields → A) (q : ℕ) (bs : List ℕ) (f : Fields) → judged (byte_faults bs) (held_fields bs) ≡ Ok f →
    judged (all_faults q bs) (g (held_fields bs)) ≡ judged (faults q f) (g f)
parsed g q bs f e =
    judged_then (byte_faults bs) (faults q (held_fields bs)) (held_fields bs) f (g (held_fields bs)) e ∙
    ap (λ x. judged (faults q x) (g x)) (passed_value (held_fields bs) f (byte_faults bs) e)

-- what is read is lawful
pub read_lawful : (q : ℕ) (bs : List ℕ) (n : Notice) → reading q bs ≡ Ok n → Lawful q (stated n)
read_lawful q bs n e =
    let f = held_fields bs in
    let p = passed (notice_of f) n (all_faults q bs) e in
    let same = passed_value (notice_of f) n (all_faults q bs) e in
    subst (Lawful q) (sym (states f) ∙ ap stated same) (lawful_from q (trade_of f) (omega arith) (omega arith) (omega arith) p.1.1.1)

-- bytes that are read, as whatever of their fields
module _ (q : ℕ) (bs : List ℕ) (bytes : AllByRecursion Byte bs) (p : Passed (all_faults q bs)) where
  pub its_form : written (held_fields bs) ≡ bs
  its_form =
      let long : length bs ≡ 14 = eqb-true _ _ (not-false _ p.0) in
      let check : check_of (take 12 bs) ≡ gathered 0 (take 2 (drop 12 bs)) = eqb-true _ _ (not-false _ p.1.0) in
      let front : length (take 12 bs) ≡ 12 = simp length-take (omega arith) in
      let back : length (take 2 (drop 12 bs)) ≡ 2 = simp (length-take, length-drop) (omega arith) in
      let fronts = All-take Byte 12 bs bytes in
      let backs = All-take Byte 2 (drop 12 bs) (All-drop Byte 12 bs bytes) in
      let m = gathered 0 (take 12 bs) in
      let small : m < 2 ^ 96 = omega (arith, bounded 12 (take 12 bs) front fronts) in
      let form = closed m (take 12 bs) (take 2 (drop 12 bs)) (spelled 12 (take 12 bs) front fronts) (spelled 2 (take 2 (drop 12 bs)) back backs) check in
      ap (λ x. checked (split twelve x)) (regained m small) ∙ form ∙ cut bs long

-- the form of what is read
pub form_of : (q : ℕ) (bs : List ℕ) (n : Notice) → AllByRecursion Byte bs → reading q bs ≡ Ok n → written (fields_of n) ≡ bs
form_of q bs n h e =
    let p = passed (notice_of (held_fields bs)) n (all_faults q bs) e in
    let same = passed_value (notice_of (held_fields bs)) n (all_faults q bs) e in
    ap written (ap fields_of (sym same) ∙ meant_back (held_fields bs) p.1.1.0) ∙ its_form q bs h p

pub one_form : (q : ℕ) (bs : List ℕ) (n : Notice) → AllByRecursion Byte bs → reading q bs ≡ Ok n → OneForm bs n
unfolding OneForm
one_form q bs n h e quarters other k f = sym (form_of quarters other n (All-from_get_or Byte other 0 (λ i l. k i 0 l)) f) ∙ form_of q bs n h e
