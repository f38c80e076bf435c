use Rattle.std.proofs.Common.{◌≡◌, ℕ, [], ◌∷◌, Ok, sym, ap, ◌∙◌, subst}
use Rattle.std.proofs.lemmas.Result.{err_from_is_err_and}
use Rattle.notice.proofs.Single.{states}
use Rattle.notice.proofs.types.Fields.notice.Goals as goal
use Rattle.notice.specs.declared.types.Fields.{Fields}
use Rattle.notice.specs.declared.types.Notice.{Notice}
use Rattle.notice.specs.declared.types.Trade.{Trade}
use Rattle.notice.specs.Form.{notice_of, stated, trade_of}
use Rattle.notice.specs.Lawful.{Lawful, faults, kindless, limits_of}
use Rattle.refusal.proofs.Judging.{passed_value, judged_then, judged_fault}
use Rattle.refusal.specs.declared.fault.Fault.TheVariants.{Kind}
use Rattle.refusal.specs.Judging.{judged}

-- fields that mean a notice are judged by the trade that it states
judged_so : (q : ℕ) (f : Fields) (n : Notice) (t : Trade) → judged ((kindless f, Kind) ∷ []) (notice_of f) ≡ Ok n → t ≡ stated n →
    (notice_of f ≡ n) × (t ≡ trade_of f) × (judged (faults q f) (notice_of f) ≡ judged (limits_of q t) (notice_of f))
judged_so q f n t e is =
    let same = passed_value (notice_of f) n ((kindless f, Kind) ∷ []) e in
    let trade = is ∙ ap stated (sym same) ∙ states f in
    (same, trade, judged_then ((kindless f, Kind) ∷ []) (limits_of q (trade_of f)) _ _ (notice_of f) e ∙ ap (λ x. judged (limits_of q x) (notice_of f)) (sym trade))

pub returns-in_err-limits-clause-answer : goal.returns-in_err-limits-clause-answer
returns-in_err-limits-clause-answer c =
    let p = err_from_is_err_and c.from_residual-in_err-limits.result c.from_residual-in_err-limits.ensures.1 in
    let q = c.args.quarters in
    let j = judged_so q c.args.self.now _ c.trade.result (sym c.try_from.ensures ∙ c.in_ok-notice.was) c.trade.ensures in
    rw (p.1, p.2) (sym (j.2 ∙ judged_fault (limits_of q c.trade.result) [] tt _ _ (sym c.in_err-limits.ensures.answer)))

pub returns : goal.returns
returns c =
    let q = c.args.quarters in
    let j = judged_so q c.args.self.now _ c.trade.result (sym c.try_from.ensures ∙ c.in_ok-notice.was) c.trade.ensures in
    let granted = sym c.limits.ensures.answer ∙ c.in_ok-limits.was in
    record {
      answer = sym (j.2 ∙ judged_then (limits_of q c.trade.result) [] tt _ _ granted ∙ ap Ok j.0);
      lawful = subst (Lawful q) j.1 c.in_ok-limits.ensures.lawful;
    }
