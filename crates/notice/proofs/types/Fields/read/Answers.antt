use Rattle.std.proofs.Common.{[], sym, ◌∙◌}
use Rattle.notice.proofs.Single.{parsed}
use Rattle.notice.proofs.types.Fields.read.Goals as goal
use Rattle.notice.specs.Form.{notice_of}
use Rattle.notice.specs.Lawful.{faults}
use Rattle.refusal.proofs.Judging.{judged_fault}
use Rattle.std.proofs.lemmas.Result.{err_from_is_err_and}

pub returns-in_err-notice : goal.returns-in_err-notice
returns-in_err-notice c =
    let p = err_from_is_err_and c.from_residual-in_err-notice.result c.from_residual-in_err-notice.ensures.1 in
    let q = c.args.quarters in
    let f = c.in_ok-fields.fields in
    rw (p.1, p.2)
    (sym (parsed (λ x. x) q c.args.bytes.now f (sym c.parse.ensures ∙ c.in_ok-fields.was) ∙
    judged_fault (faults q f) [] (notice_of f) f _ (sym c.in_err-notice.ensures.answer)))
