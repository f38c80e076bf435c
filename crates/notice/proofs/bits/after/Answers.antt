use Rattle.std.proofs.Common.{arith}
use Rattle.std.proofs.lemmas.Nat.{or_shifted, shl_whole}
use Rattle.notice.proofs.bits.after.Goals as goal

pub returns : goal.returns
returns c =
    let a = c.args in
    rw (shl_whole a.bits 96 a.width 128 (omega arith) (omega arith), or_shifted a.bits a.width a.value (omega arith))
