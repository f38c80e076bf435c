use Rattle.std.proofs.Common.{◌≡◌, min, length, [], ◌∷◌, sym, ap, ◌∙◌, arith}
use Rattle.day.proofs.submission.record_notice.Goals as goal
use Rattle.day.specs.Noticing.{kind_faults, party_unknown}
use Rattle.notice.specs.Form.{stated}
use Rattle.refusal.proofs.Judging.{judged_fault, judged_then}
use Rattle.refusal.specs.declared.fault.Fault.TheVariants.{UnknownParty}
use Rattle.refusal.specs.Judging.{judged}
use Rattle.std.proofs.lemmas.Result.{err_from_is_err_and}

pub returns-in_err-parties_known-clause-answer : goal.returns-in_err-parties_known-clause-answer
returns-in_err-parties_known-clause-answer c =
    let p = err_from_is_err_and c.from_residual.result c.from_residual.ensures.1 in
    let used = c.args.extent.now.parties in
    let ps = c.args.parties.now in
    let within : min used (length ps) ≡ used = omega arith in
    let is = c.in_err-parties_known.ensures ∙ ap (λ k. judged ((party_unknown k ps c.trade.result, UnknownParty) ∷ []) tt) within ∙ ap (λ t. judged ((party_unknown used ps t, UnknownParty) ∷ []) tt) c.trade.ensures in
    rw (p.1, p.2) (sym (judged_fault ((party_unknown used ps (stated c.args.notice), UnknownParty) ∷ []) (kind_faults c.args.extent.now.notices c.args.notices.now c.args.notice) tt tt _ (sym is)))

pub returns-in_err-record_in-clause-answer : goal.returns-in_err-record_in-clause-answer
returns-in_err-record_in-clause-answer c =
    let p = err_from_is_err_and c.from_residual-in_err-record_in.result c.from_residual-in_err-record_in.ensures.1 in
    let used = c.args.extent.now.parties in
    let ps = c.args.parties.now in
    let within : min used (length ps) ≡ used = omega arith in
    let is = c.in_ok-parties_known.ensures ∙ ap (λ k. judged ((party_unknown k ps c.trade.result, UnknownParty) ∷ []) tt) within ∙ ap (λ t. judged ((party_unknown used ps t, UnknownParty) ∷ []) tt) c.trade.ensures in
    let all : min c.args.extent.now.notices (length c.args.notices.now) ≡ c.args.extent.now.notices = omega arith in
    rw (p.1, p.2)
    (c.in_err-record_in.ensures.answer ∙ ap (λ k. judged (kind_faults k c.args.notices.now c.args.notice) tt) all ∙
    sym (judged_then ((party_unknown used ps (stated c.args.notice), UnknownParty) ∷ []) (kind_faults c.args.extent.now.notices c.args.notices.now c.args.notice) tt _ tt (sym is)))

pub returns-clause-answer : goal.returns-clause-answer
returns-clause-answer c =
    let used = c.args.extent.now.parties in
    let ps = c.args.parties.now in
    let within : min used (length ps) ≡ used = omega arith in
    let is = c.in_ok-parties_known.ensures ∙ ap (λ k. judged ((party_unknown k ps c.trade.result, UnknownParty) ∷ []) tt) within ∙ ap (λ t. judged ((party_unknown used ps t, UnknownParty) ∷ []) tt) c.trade.ensures in
    let all : min c.args.extent.now.notices (length c.args.notices.now) ≡ c.args.extent.now.notices = omega arith in
    c.in_ok-record_in.ensures.answer ∙ ap (λ k. judged (kind_faults k c.args.notices.now c.args.notice) tt) all ∙
    sym (judged_then ((party_unknown used ps (stated c.args.notice), UnknownParty) ∷ []) (kind_faults c.args.extent.now.notices c.args.notices.now c.args.notice) tt _ tt (sym is))
