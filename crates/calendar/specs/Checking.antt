-- What the check of a new day answers.
use Rattle.std.specs.Prelude.{◌≡◌, ℕ, false, Ok, Err, Result}
use Rattle.calendar.specs.Days.{is_day}
use Rattle.calendar.specs.declared.delivery_day.DeliveryDay.{DeliveryDay}
use Rattle.refusal.specs.declared.fault.Fault.{Fault}
use Rattle.refusal.specs.declared.fault.Fault.TheVariants.{Day}

-- the day that was asked for, which is a day by its type; or the refusal, where it is none
abbrev pub Checked : ℕ → ℕ → Result DeliveryDay Fault → Type 0
Checked number count (Ok d) = (d.number ≡ number) × (d.count ≡ count)
Checked number count (Err f) = (f ≡ Day) × (is_day number count ≡ false)
