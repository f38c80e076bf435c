-- What opening a day answers.
use Rattle.std.specs.Prelude.{◌≡◌, ℕ, false, Ok, Err, Result}
use Rattle.calendar.specs.Days.{is_day}
use Rattle.day.specs.declared.types.OpenDay.{OpenDay}
use Rattle.refusal.specs.declared.fault.Fault.{Fault}
use Rattle.refusal.specs.declared.fault.Fault.TheVariants.{Day}

-- an open day of this number and count with no records; or a refusal, where there is no such day
abbrev pub Opened : ℕ → ℕ → Result OpenDay Fault → Type 0
Opened number count (Ok d) =
    (d.extent.day.number ≡ number) × (d.extent.day.count ≡ count)
    × (d.extent.parties ≡ 0) × (d.extent.points ≡ 0) × (d.extent.notices ≡ 0)
Opened number count (Err f) = (f ≡ Day) × (is_day number count ≡ false)
