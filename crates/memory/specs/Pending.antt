-- How many notices wait for their partner's confirmation.
use Rattle.std.specs.Prelude.{ℕ, zero, suc, ◌+◌, min, Bool, true, false, cond, List, length, slice_index_or}
use Rattle.memory.specs.declared.types.NoticeRecord.{NoticeRecord}
use Rattle.memory.specs.declared.types.Stage.{Stage}
use Rattle.memory.specs.declared.types.Stage.TheVariants.{Pending, Confirmed, Withdrawn}
use Rattle.memory.specs.Held.{no_notice}

abbrev pub is_pending : Stage → Bool
is_pending Pending = true
is_pending Confirmed = false
is_pending Withdrawn = false

-- how many of the places below n pass a test
abbrev pub how_many : ℕ → (ℕ → Bool) → ℕ
how_many zero p = 0
how_many (suc n) p = how_many n p + cond (p n) 1 0

-- of the first `used` places, as many as there are
abbrev pub count_pending : ℕ → List NoticeRecord → ℕ
count_pending used ns = how_many (min used (length ns)) (λ j. is_pending (slice_index_or ns j no_notice).stage)
