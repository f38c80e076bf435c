use Rattle.std.proofs.Common.{◌≡◌, Decides, arith}
use Rattle.std.proofs.lemmas.Bool.Decides.{same_from_decides}
use Rattle.std.proofs.lemmas.Grind.{common_steps}
use Rattle.notice.proofs.Mirrored.{decides_same_trade}
use Rattle.notice.proofs.types.Trade.is.Goals as goal

pub returns-clause-test : goal.returns-clause-test
returns-clause-test c =
    let d : Decides c.eq.result (c.args.self ≡ c.args.other) = grind (arith, common_steps) in
    same_from_decides _ _ d (decides_same_trade c.args.self c.args.other)
