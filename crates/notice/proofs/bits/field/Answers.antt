use Rattle.std.proofs.Common.{arith}
use Rattle.std.proofs.lemmas.Nat.{one_shl, and_mask}
use Rattle.notice.proofs.bits.field.Goals as goal

pub returns : goal.returns
returns c = rw (one_shl c.args.width 128 (omega arith), and_mask)
