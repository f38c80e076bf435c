-- What holds of the fourteen bytes, in the words of those who send and read them.
use Rattle.std.specs.Prelude.{◌≡◌, ℕ, ◌<◌, List, Ok, Err, ◌≢◌, slice_index, slice_set, All}
use Rattle.notice.specs.declared.types.Fields.{Fields}
use Rattle.notice.specs.declared.types.Notice.{Notice}
use Rattle.notice.specs.Form.{notice_of, trade_of}
use Rattle.notice.specs.Lawful.{Lawful}
use Rattle.notice.specs.Packing.{Byte}
use Rattle.notice.specs.Reading.{reading, reading_fields}
use Rattle.refusal.specs.declared.fault.Fault.TheVariants.{Check}

-- in every day that the trade is lawful in, the bytes are read as the very fields, and as the notice that these mean
unfoldable pub ReadBack : Fields → List ℕ → Type 0
ReadBack f bytes =
    (quarters : ℕ) → Lawful quarters (trade_of f) → (reading_fields quarters bytes ≡ Ok f) × (reading quarters bytes ≡ Ok (notice_of f))

-- the bytes with any one of them changed are refused by the check
unfoldable pub Guarded : List ℕ → Type 0
Guarded bytes =
    (quarters i b : ℕ) → i < 14 → Byte b → (slice_index bytes i ≢ b) → reading quarters (slice_set bytes i b) ≡ Err Check

-- no other bytes are read as this notice, in a day of any length
unfoldable pub OneForm : List ℕ → Notice → Type 0
OneForm bytes n = (quarters : ℕ) (other : List ℕ) → All Byte other → reading quarters other ≡ Ok n → other ≡ bytes
