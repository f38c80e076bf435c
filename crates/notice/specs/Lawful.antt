-- What a notice has to keep to, and why it is refused.
use Rattle.std.specs.Prelude.{◌≡◌, ℕ, ◌≤◌, Bool, ◌&&◌, ◌||◌, List, [], ◌∷◌, is_ok, ◌==◌, nat_le, nat_lt}
use Rattle.notice.specs.declared.types.Fields.{Fields}
use Rattle.notice.specs.declared.types.Trade.{Trade}
use Rattle.notice.specs.Form.{trade_of}
use Rattle.refusal.specs.declared.fault.Fault.{Fault}
use Rattle.refusal.specs.declared.fault.Fault.TheVariants.{Kind, QuarterHour, Limit, Number}
use Rattle.refusal.specs.Judging.{judged}

abbrev pub Within : ℕ → ℕ → ℕ → Type 0
Within low high x = (low ≤ x) × (x ≤ high)

-- A trade is lawful in a day of so many quarter-hours: its numbers are 1 to 65,535, sender and partner differ,
-- the run lies in the day, and the quantity is 1 to 1,000,000 kWh.
pub record Lawful (quarters : ℕ) (t : Trade) : Type 0 where
  pub number : Within 1 65535 t.number
  pub sender : Within 1 65535 t.sender
  pub partner : Within 1 65535 t.partner
  pub apart : t.sender ≡ t.partner → ⊥
  pub first : Within 1 t.last t.first
  pub last : t.last ≤ quarters
  pub quantity : Within 1 1000000 t.quantity

abbrev pub outside_day : ℕ → ℕ → Bool
outside_day quarters q = q == 0 || nat_lt quarters q

-- the tests of a trade, in their order
abbrev pub limits_of : ℕ → Trade → List (Bool × Fault)
limits_of quarters t =
    (outside_day quarters t.first, QuarterHour t.first 0) ∷
    (outside_day quarters t.last, QuarterHour t.last 0) ∷
    (nat_lt t.last t.first, QuarterHour t.first 0) ∷
    (t.quantity == 0 || nat_lt 1000000 t.quantity, Limit) ∷
    (t.number == 0 || t.sender == 0 || t.partner == 0 || (t.sender == t.partner), Number) ∷
    []

-- the tests of ten fields, in their order
abbrev pub kindless : Fields → Bool
kindless f = f.kind == 0 || nat_lt 3 f.kind || nat_lt 0 f.spare || nat_lt 0 f.unused

abbrev pub faults : ℕ → Fields → List (Bool × Fault)
faults quarters f = (kindless f, Kind) ∷ limits_of quarters (trade_of f)

-- the same as a test
unfoldable pub lawful : ℕ → Trade → Bool
lawful quarters t =
    is_ok (judged {A = Unit {0}} (limits_of quarters t) tt) && (nat_le t.number 65535 && (nat_le t.sender 65535 && nat_le t.partner 65535))
