use Rattle.std.proofs.Common.{◌≡◌, true, List, take, rules, All, arith}
use Rattle.std.proofs.lemmas.Iterator.{YieldsList-from_take, cases_from_all}
use Rattle.std.proofs.lemmas.Iterator.Consumers.{YieldsList-at}
use Rattle.memory.proofs.Pieces.{YieldsList-from_chunks, told}
use Rattle.memory.proofs.bounded.rows_fit.Goals as goal
use borrow.Author.Tests.{tests}

pub returns : goal.returns
returns g c =
    let xs = c.args.figures.now in
    let road = YieldsList-from_take c.args.rows (YieldsList-at c.take.ensures.source (YieldsList-from_chunks 100 xs (omega arith) c.chunks.ensures.size c.chunks.ensures.rest)) c.take.ensures.count in
    let fits = λ (y : List g.row.T.Denot). All (λ x. g.T.Bounded.within x ≡ true) (take c.args.width y) in
    let run = cases_from_all _ _ _ fits (λ y. fits y → ⊥) c.all.ensures.ran road (λ x q k. search (rules, tests)) (λ x q k. search (rules, tests)) in
    told fits c.args.rows 100 xs _ (omega arith) c.requires run
