-- What each refusal is given out as.
use Rattle.std.specs.Prelude.{ℕ}
use Rattle.refusal.specs.declared.fault.Fault.{Fault}
use Rattle.refusal.specs.declared.fault.Fault.TheVariants.{Length, Check, Kind, QuarterHour, Limit, Number, Day, Sizes, Order, UnknownParty, UnknownPoint, NumberUsed, RegisterFull, NotPending, Mismatch, ReadingMissing, OtherSheet, AmountLimit, SourceMissing, CyclesOutside, SourceLimit, AlphaMissing}
use Rattle.refusal.specs.declared.values.Values.{Values}

-- number, record number, quarter-hour, height
abbrev pub about : ℕ → ℕ → ℕ → ℕ → Values
about n s q h = record { number = n; subject = s; quarter = q; height = h }

abbrev pub values_of : Fault → Values
values_of Length = about 1 0 0 0
values_of Check = about 2 0 0 0
values_of Kind = about 3 0 0 0
values_of (QuarterHour q h) = about 4 0 q h
values_of Limit = about 5 0 0 0
values_of Number = about 6 0 0 0
values_of Day = about 7 0 0 0
values_of Sizes = about 8 0 0 0
values_of Order = about 20 0 0 0
values_of UnknownParty = about 21 0 0 0
values_of UnknownPoint = about 22 0 0 0
values_of NumberUsed = about 23 0 0 0
values_of RegisterFull = about 24 0 0 0
values_of NotPending = about 25 0 0 0
values_of Mismatch = about 26 0 0 0
values_of (ReadingMissing x q) = about 27 x q 0
values_of OtherSheet = about 28 0 0 0
values_of AmountLimit = about 30 0 0 0
values_of (SourceMissing s q h) = about 31 s q h
values_of (CyclesOutside s q h) = about 32 s q h
values_of (SourceLimit s q h) = about 33 s q h
values_of (AlphaMissing q h) = about 34 0 q h
