use Rattle.std.proofs.Common.{◌≡◌, ◌++◌, length, min, ap, ◌∙◌}
use mathlib.Core.Logic.{⊎_map}
use Rattle.day.specs.Days.{open_extent}
use Rattle.noticelog.proofs.logged_day.LoggedDay.log.Goals as goal
use Rattle.noticelog.proofs.Logging.{all_to_log, ended, still_to_log, turn}
use Rattle.std.specs.Iterator.Adapters.{zip_first, zip_second}
use Rattle.std.specs.Range.{range_inclusive_end, range_inclusive_exhausted, range_inclusive_start}
use Rattle.std.specs.Slice.Iter.{chunks_rest, chunks_size}
use Rattle.store.specs.Stored.{stored}

pub loop-place-init : goal.loop-place-init
loop-place-init c =
    let it = c.into_iter-place-iterator.result in
    let e = open_extent c.args.self.now.day in
    let m = stored c.args.self.now.store in
    let first : zip_first it ≡ c.new.result = ap zip_first c.into_iter-place-iterator.ensures.into_iter_gives ∙ c.zip-place-items.ensures.first in
    let second : zip_second it ≡ c.chunks.result = ap zip_second c.into_iter-place-iterator.ensures.into_iter_gives ∙ c.zip-place-items.ensures.second in (
      ap chunks_size second ∙ c.chunks.ensures.size,
      ap (λ ls. ls ++ still_to_log (zip_first it) (chunks_rest (zip_second it)) e m) c.new-lines.ensures.items ∙
          all_to_log (zip_first it) _ _ e m (ap range_inclusive_start first ∙ c.new.ensures.start) (ap range_inclusive_end first ∙ c.new.ensures.end)
          (ap range_inclusive_exhausted first ∙ c.new.ensures.exhausted) (ap chunks_rest second ∙ c.chunks.ensures.rest),
    )

pub loop-place-preserved : goal.loop-place-preserved
loop-place-preserved c =
    let l = c.loop-place in
    let rest = chunks_rest (zip_second l.place-iterator) in
    let step = c.in-Some.ensures.steps in
    let cut = step.1.1 in (
      step.1.0 ∙ l.invariant.0,
      turn _ _ (zip_first l.place-iterator) rest (open_extent l.self.day) (stored l.self.store) l.invariant.1 _ (zip_first c.next.new.self) _ c.in-Some.notice.now _ _ c.in-Some.place c.take_notice.result
          step.0 (cut.0, cut.1 ∙ ap (λ n. min n (length rest)) l.invariant.0, cut.2)
          c.take_notice.ensures.line c.take_notice.ensures.extent c.take_notice.ensures.memory c.in_ok-push.ensures.items,
    )

pub returns : goal.returns
returns c =
    let l = c.loop-place in
    ended _ _ (zip_first l.place-iterator) (chunks_rest (zip_second l.place-iterator)) (open_extent l.self.day) (stored l.self.store) l.invariant.1
    (⊎_map (λ places. places.1.1.0) (λ bytes. bytes.1.1.0) c.in-None.ensures.steps)
