-- What bytes are read as, and why they are refused.
use Rattle.std.specs.Prelude.{ℕ, Bool, not, List, [], ◌∷◌, length, take, drop, Result, ◌==◌}
use Rattle.notice.specs.declared.types.Fields.{Fields}
use Rattle.notice.specs.declared.types.Notice.{Notice}
use Rattle.notice.specs.Form.{layout, fields_from, notice_of}
use Rattle.notice.specs.Lawful.{faults}
use Rattle.notice.specs.Packing.{gathered, split, check_of}
use Rattle.refusal.specs.declared.fault.Fault.{Fault}
use Rattle.refusal.specs.declared.fault.Fault.TheVariants.{Length, Check}
use Rattle.refusal.specs.Judging.{judged}

-- the ten fields in the first twelve bytes
abbrev pub held_fields : List ℕ → Fields
held_fields bs = fields_from (split layout (gathered 0 (take 12 bs)))

-- the tests of bytes alone, and those of a notice in a day of so many quarter-hours
abbrev pub byte_faults : List ℕ → List (Bool × Fault)
byte_faults bs =
    (not (length bs == 14), Length) ∷ (not (check_of (take 12 bs) == gathered 0 (take 2 (drop 12 bs))), Check) ∷ []

abbrev pub all_faults : ℕ → List ℕ → List (Bool × Fault)
all_faults quarters bs =
    (not (length bs == 14), Length) ∷ (not (check_of (take 12 bs) == gathered 0 (take 2 (drop 12 bs))), Check) ∷
    faults quarters (held_fields bs)

-- the fields that bytes are read as, and the notice
abbrev pub reading_fields : ℕ → List ℕ → Result Fields Fault
reading_fields quarters bs = judged (all_faults quarters bs) (held_fields bs)

abbrev pub reading : ℕ → List ℕ → Result Notice Fault
reading quarters bs = judged (all_faults quarters bs) (notice_of (held_fields bs))
