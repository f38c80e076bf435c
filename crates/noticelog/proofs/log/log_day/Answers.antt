use Rattle.noticelog.proofs.log.log_day.Goals as goal
use Rattle.noticelog.specs.Log.{BegunLogs, Logs}
use Rattle.std.proofs.lemmas.Result.{IfOk-weaker}

pub returns : goal.returns
returns c = record {
  logs = IfOk-weaker c.log.result _ (λ lines. Logs c.args.bytes.now lines.items) (λ lines is. (_, _, c.in_ok-day.ensures.started, is)) c.log.ensures;
  begun = IfOk-weaker c.log.result _ (λ lines. BegunLogs c.args.bytes.now lines.items) (λ lines is. (_, _, c.in_ok-day.ensures.begun, is)) c.log.ensures;
}
