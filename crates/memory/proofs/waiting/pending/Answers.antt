use Rattle.std.proofs.Common.{ℕ, ◌<◌, Bool, cond, take, get_or, ap, ◌∙◌, arith, rules}
use Rattle.std.proofs.lemmas.Iterator.{YieldsList-from_slice, YieldsList-from_map}
use Rattle.std.proofs.lemmas.Iterator.Consumers.{YieldsList-at, sum_by_from_yields_List, fits_by_from_yields_list}
use Rattle.std.specs.List.{sum_by}
use Rattle.memory.proofs.Counted.{at_most_all, counted}
use Rattle.memory.proofs.waiting.pending.Goals as goal
use Rattle.memory.specs.Held.{no_notice}
use Rattle.memory.specs.Pending.{how_many, is_pending}
use Rattle.memory.specs.declared.types.NoticeRecord.{NoticeRecord}

abbrev waits : NoticeRecord → Bool
waits n = is_pending n.stage

-- 1 for a notice that waits, and 0 for another
abbrev one : NoticeRecord → ℕ
one n = cond (waits n) 1 0

pub sum-requires-clause-fits : goal.sum-requires-clause-fits
sum-requires-clause-fits c =
    let ns = c.args.notices.now in
    let k = c.min.result in
    let small : sum_by one (take k ns) < 18446744073709551616 = omega (arith, counted waits no_notice ns k (omega arith), at_most_all k (λ j. waits (get_or ns j no_notice))) in
    fits_by_from_yields_list one (take k ns) c.map.result 18446744073709551616
    (YieldsList-from_map _ one (YieldsList-at c.map.ensures.source (YieldsList-from_slice (take k ns) cc)) c.map.ensures.closure (λ x r q k. search rules)) small

pub returns : goal.returns
returns c =
    let ns = c.args.notices.now in
    let k = c.min.result in
    sum_by_from_yields_List one (take k ns) c.map.result _ c.sum.ensures.ran
    (YieldsList-from_map _ one (YieldsList-at c.map.ensures.source (YieldsList-from_slice (take k ns) cc)) c.map.ensures.closure (λ x r q k. search rules))
    ∙ counted waits no_notice ns k (omega arith) ∙ ap (λ n. how_many n (λ j. waits (get_or ns j no_notice))) (omega arith)
