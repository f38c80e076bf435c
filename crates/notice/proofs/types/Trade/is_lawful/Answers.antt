use Rattle.std.proofs.Common.{Decides, arith}
use Rattle.std.proofs.lemmas.Bool.Decides.{same_from_decides}
use Rattle.std.proofs.lemmas.Grind.{common_steps}
use Rattle.notice.proofs.Single.{decides_lawful}
use Rattle.notice.proofs.types.Trade.is_lawful.Goals as goal
use Rattle.notice.specs.Lawful.{Lawful}

pub returns-clause-test : goal.returns-clause-test
returns-clause-test c =
    let d : Decides c.is_ok.result (Lawful c.args.quarters c.args.self) = grind (arith, common_steps) in
    same_from_decides _ _ d (decides_lawful c.args.quarters c.args.self)
