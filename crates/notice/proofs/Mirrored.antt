-- Two trades are one where all their fields are, and a mirrored trade mirrored again is itself.
use Rattle.std.proofs.Common.{◌≡◌, Decides, arith}
use Rattle.notice.specs.declared.types.Trade.{Trade}
use Rattle.notice.specs.Mirror.{mirror, same_trade}
use Rattle.std.proofs.lemmas.Bool.Decides.{nat_tests}

pub decides_same_trade : (t u : Trade) → Decides (same_trade t u) (t ≡ u)
unfolding same_trade
decides_same_trade t u = grind (arith, nat_tests)

pub mirror_back : (t : Trade) → mirror (mirror t) ≡ t
mirror_back t = grind arith
