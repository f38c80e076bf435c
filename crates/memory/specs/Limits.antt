-- The limits of figures.
use Rattle.std.specs.Prelude.{Bool, true, ◌&&◌, ℤ, pos, negsuc, ◌≤ℤ◌, Some, None, Option, int_le}
use Rattle.memory.specs.declared.types.Outside.{Outside}
use Rattle.memory.specs.declared.types.Reading.{Reading}
use Rattle.units.specs.declared.Kwh.{Kwh}
use Rattle.units.specs.declared.Mills.{Mills}

abbrev pub Between : ℤ → ℤ → ℤ → Type 0
Between low high z = (low ≤ℤ z) × (z ≤ℤ high)

-- a metered energy is 0 to 1,000,000 kWh, an outside figure -1,000,000 to 1,000,000
abbrev pub Metered : Kwh → Type 0
Metered k = Between (pos 0) (pos 1000000) k.0

abbrev pub Scheduled : Kwh → Type 0
Scheduled k = Between (negsuc 999999) (pos 1000000) k.0

-- a reading that is given
abbrev pub ReadingRight : Option Reading → Type 0
ReadingRight None = Unit {0}
ReadingRight (Some r) = Metered r.injection × Metered r.offtake

abbrev pub OutsideRight : Outside → Type 0
OutsideRight o = Scheduled o.exchange × Scheduled o.correction

-- an amount or a sum billed is at most 2,000,000,000,000,000,000 mills in size
abbrev pub AmountRight : Mills → Type 0
AmountRight a = Between (negsuc 1999999999999999999) (pos 2000000000000000000) a.0

-- The same as tests.
abbrev pub between : ℤ → ℤ → ℤ → Bool
between low high z = int_le low z && int_le z high

abbrev pub metered : Kwh → Bool
metered k = between (pos 0) (pos 1000000) k.0

abbrev pub scheduled : Kwh → Bool
scheduled k = between (negsuc 999999) (pos 1000000) k.0

abbrev pub reading_fits : Option Reading → Bool
reading_fits None = true
reading_fits (Some r) = metered r.injection && metered r.offtake

abbrev pub outside_fits : Outside → Bool
outside_fits o = scheduled o.exchange && scheduled o.correction

abbrev pub amount_fits : Mills → Bool
amount_fits a = between (negsuc 1999999999999999999) (pos 2000000000000000000) a.0
