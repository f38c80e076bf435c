use Rattle.std.proofs.Common.{◌≡◌, take, string_bytes}
use Rattle.noticelog.proofs.text.written.Given as goal
use Rattle.noticelog.specs.Text.{log_text}

abbrev pub invariant-loop-line : goal.invariant-loop-line
invariant-loop-line l = string_bytes l.text ≡ log_text (take l.line-index l.lines)
