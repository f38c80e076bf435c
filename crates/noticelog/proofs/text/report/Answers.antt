use Rattle.std.proofs.Common.{string_bytes, ap, ◌∙◌}
use Rattle.noticelog.proofs.text.report.Goals as goal
use Rattle.noticelog.specs.Text.{Reports, log_text}
use Rattle.std.proofs.lemmas.Result.{IfOk-weaker}

pub returns : goal.returns
returns c =
    IfOk-weaker c.written.result _ (λ text. Reports c.args.bytes.now (string_bytes text))
    (λ text is. (_, c.in_ok-lines.ensures.begun, is ∙ ap log_text c.deref.ensures.value)) c.written.ensures
