use Rattle.std.proofs.Common.{◌≡◌, ◌++◌}
use Rattle.day.specs.Days.{open_extent}
use Rattle.noticelog.proofs.logged_day.LoggedDay.log.Given as goal
use Rattle.noticelog.proofs.Logging.{still_to_log}
use Rattle.noticelog.specs.Log.{log_from, notices_in}
use Rattle.std.specs.Iterator.Adapters.{zip_first, zip_second}
use Rattle.std.specs.Slice.Iter.{chunks_rest, chunks_size}
use Rattle.store.specs.Stored.{stored}

abbrev pub invariant-loop-place : goal.invariant-loop-place
invariant-loop-place l =
    (chunks_size (zip_second l.place-iterator) ≡ 14)
    × (l.lines.items ++ still_to_log (zip_first l.place-iterator) (chunks_rest (zip_second l.place-iterator)) (open_extent l.self.day) (stored l.self.store)
    ≡ log_from 1 (open_extent l.initial.self.day) (stored l.initial.self.store) (notices_in 64 l.bytes))
