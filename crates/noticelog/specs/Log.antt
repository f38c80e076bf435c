-- The log of notices that are sent one after the other.
use Rattle.std.specs.Prelude.{◌≡◌, ℕ, zero, suc, ◌+◌, List, [], ◌∷◌, take, drop, Ok, Err, Result}
use Rattle.day.specs.Noticing.{noticing}
use Rattle.day.specs.Outcome.{Outcome}
use Rattle.memory.specs.declared.types.Extent.{Extent}
use Rattle.memory.specs.Held.{Held}
use Rattle.memory.specs.Pending.{count_pending}
use Rattle.noticelog.specs.declared.line.Line.{Line}
use Rattle.noticelog.specs.Start.{Begun, Started}
use Rattle.refusal.specs.declared.fault.Fault.{Fault}
use Rattle.refusal.specs.Meaning.{values_of}

-- the number of a refusal, or 0
abbrev pub refusal_number : Result (Unit {0}) Fault → ℕ
refusal_number (Ok u) = 0
refusal_number (Err f) = (values_of f).number

-- what became of the notice in a place
abbrev pub line_of : ℕ → Outcome → Line
line_of place o = record { place = place; answer = o.answer; pending = count_pending o.extent.notices o.memory.notices }

-- the notices in a row of bytes, at most so many: fourteen bytes each, and a short rest counts as one
abbrev pub notices_in : ℕ → List ℕ → List (List ℕ)
notices_in zero bytes = []
notices_in (suc most) [] = []
notices_in (suc most) (b ∷ bs) = take 14 (b ∷ bs) ∷ notices_in most (drop 14 (b ∷ bs))

-- each notice meets the day and the memory that the one before left
unfoldable pub log_from : ℕ → Extent → Held → List (List ℕ) → List Line
log_from place e m [] = []
log_from place e m (bytes ∷ rest) =
    let o = noticing e m bytes in
    line_of place o ∷ log_from (place + 1) o.extent o.memory rest

-- the log of the notices in the bytes, upon day 2 of 96 quarter-hours with parties 1 to 8 and no other record
abbrev pub Logs : List ℕ → List Line → Type 0
Logs bytes lines = (e : Extent) × (m : Held) × Started 2 96 8 e m × (lines ≡ log_from 1 e m (notices_in 64 bytes))

-- the same, where the first notice meets memory in order that has places for 8 parties, no point and 64 notices
abbrev pub BegunLogs : List ℕ → List Line → Type 0
BegunLogs bytes lines = (e : Extent) × (m : Held) × Begun 8 e m × (lines ≡ log_from 1 e m (notices_in 64 bytes))
