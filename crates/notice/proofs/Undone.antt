-- Reading undoes writing.
use Rattle.std.proofs.Common.{◌≡◌, ℕ, false, not, Ok, sym, refl, ap, ◌∙◌, arith}
use Rattle.notice.proofs.Packed.{join_high, split_join, join_whole}
use Rattle.notice.specs.declared.types.Fields.{Fields}
use Rattle.notice.specs.Form.{layout, listed, fields_from, packed, checked, written, notice_of, trade_of}
use Rattle.notice.specs.Lawful.{Lawful, kindless, faults}
use Rattle.notice.specs.Packing.{Fit, split, twelve, two, check_of}
use Rattle.notice.specs.Promises.{ReadBack}
use Rattle.notice.specs.Reading.{byte_faults, all_faults, held_fields}
use Rattle.refusal.proofs.Judging.{Passed, judged_passed}
use Rattle.refusal.specs.Judging.{judged}
use Rattle.std.proofs.lemmas.Bool.{eq-eqb}
use Rattle.std.proofs.lemmas.Bool.Decides.{nat_tests}

-- the listed fields give them back
listed_back : (f : Fields) → fields_from (listed f) ≡ f
listed_back f = grind (arith, nat_tests)

module _ (f : Fields) where
  -- lawful fields have room in their widths
  pub fits : kindless f ≡ false → Lawful 100 (trade_of f) → Fit layout (listed f)
  fits k l = grind (arith, nat_tests)

  -- and meet no fault
  pub passes : {A : Type 0} (quarters : ℕ) (a : A) → kindless f ≡ false → Lawful quarters (trade_of f) → judged (faults quarters f) a ≡ Ok a
  passes quarters a k l = grind (arith, nat_tests)

-- twelve bytes with their check pass the tests of bytes, and hold what they were made from
pub bytes_pass : (n : ℕ) → Passed (byte_faults (checked (split twelve n)))
bytes_pass n = (refl, (ap not (eq-eqb _ _ (sym (join_whole two (check_of (split twelve n)) (omega arith)))), tt))

pub held_written : (f : Fields) → Fit layout (listed f) → held_fields (written f) ≡ f
held_written f fit =
    ap (λ m. fields_from (split layout m)) (join_whole twelve (packed f) (omega (arith, join_high 0 layout (listed f) fit))) ∙
    ap fields_from (split_join 0 layout (listed f) fit) ∙ listed_back f

module _ (f : Fields) (fit : Fit layout (listed f)) (kind : kindless f ≡ false) where
  reads : {A : Type 0} (g : Fields → A) (quarters : ℕ) → Lawful quarters (trade_of f) → judged (all_faults quarters (written f)) (g (held_fields (written f))) ≡ Ok (g f)
  reads g quarters l =
      judged_passed (byte_faults (written f)) (faults quarters (held_fields (written f))) (g (held_fields (written f))) (bytes_pass (packed f)) ∙
      ap (λ x. judged (faults quarters x) (g x)) (held_written f fit) ∙ passes f quarters (g f) kind l

  pub read_back : ReadBack f (written f)
  unfolding ReadBack
  read_back quarters l = (reads (λ x. x) quarters l, reads notice_of quarters l)
