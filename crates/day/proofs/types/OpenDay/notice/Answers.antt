use Rattle.std.proofs.Common.{sym, refl, ap, ◌∙◌, subst}
use Rattle.day.proofs.Answered.{answers_as, lodges_as}
use Rattle.day.proofs.Concluded.{Kept, granted, refused_first, refused_later, same_outcome}
use Rattle.day.proofs.NoticeKept.{notice_kept}
use Rattle.day.proofs.types.OpenDay.notice.Goals as goal
use Rattle.day.specs.Noticing.{after_reading, notice_faults, noticed, state_faults}
use Rattle.day.specs.Outcome.{Outcome, concluded}
use Rattle.memory.specs.Held.{held}
use Rattle.memory.specs.Ready.{memory_faults}
use Rattle.refusal.proofs.Judging.{passed, passed_both}
use Rattle.std.proofs.lemmas.Result.{err_from_is_err_and}

pub returns-in_err-notice : goal.returns-in_err-notice
returns-in_err-notice c =
    let p = err_from_is_err_and c.from_residual.result c.from_residual.ensures.1 in
    let e = c.args.self.now.extent in
    let m = held c.args.memory in
    let out = ap (λ r. concluded e m (after_reading e m r)) (sym c.in_err-notice.ensures.answer) in
    rw (p.1, p.2) (record { outcome = out; kept = tt; answers = answers_as e m c.args.bytes.now _ (ap (λ (o : Outcome). o.answer) out); lodges = lodges_as e m c.args.bytes.now _ (ap (λ (o : Outcome). o.answer) out) })

pub returns-in_err-ready : goal.returns-in_err-ready
returns-in_err-ready c =
    let p = err_from_is_err_and c.from_residual-in_err-ready.result c.from_residual-in_err-ready.ensures.1 in
    let e = c.args.self.now.extent in
    let m = held c.args.memory in
    let n = c.in_ok-notice.notice in
    let tests = notice_faults e m n in
    let out =
    ap (λ r. concluded e m (after_reading e m r)) (sym c.read.ensures.answer ∙ c.in_ok-notice.was) ∙
    refused_first e m (memory_faults e m) tests (noticed e m n) _ (sym c.in_err-ready.ensures.answer) in
    rw (p.1, p.2) (record { outcome = out; kept = tt; answers = answers_as e m c.args.bytes.now _ (ap (λ (o : Outcome). o.answer) out); lodges = lodges_as e m c.args.bytes.now _ (ap (λ (o : Outcome). o.answer) out) })

pub returns-in_err-record_notice : goal.returns-in_err-record_notice
returns-in_err-record_notice c =
    let p = err_from_is_err_and c.from_residual-in_err-record_notice.result c.from_residual-in_err-record_notice.ensures.1 in
    let e = c.args.self.now.extent in
    let m = held c.args.memory in
    let n = c.in_ok-notice.notice in
    let a = c.in_err-record_notice.ensures in
    let front = passed tt _ (memory_faults e m) (sym c.ready.ensures.answer ∙ c.in_ok-ready.was) in
    let tests = notice_faults e m n in
    let out =
    ap (λ r. concluded e m (after_reading e m r)) (sym c.read.ensures.answer ∙ c.in_ok-notice.was) ∙
    refused_later e m (memory_faults e m) tests (noticed e m n) _ front (sym a.answer) ∙
    same_outcome _ _ refl (sym a.extent) refl refl (sym a.notices) refl refl refl refl refl refl in
    rw (p.1, p.2) (record { outcome = out; kept = tt; answers = answers_as e m c.args.bytes.now _ (ap (λ (o : Outcome). o.answer) out); lodges = lodges_as e m c.args.bytes.now _ (ap (λ (o : Outcome). o.answer) out) })

pub returns : goal.returns
returns c =
    let e = c.args.self.now.extent in
    let m = held c.args.memory in
    let n = c.in_ok-notice.notice in
    let a = c.in_ok-record_notice.ensures in
    let front = passed tt _ (memory_faults e m) (sym c.ready.ensures.answer ∙ c.in_ok-ready.was) in
    let tests = notice_faults e m n in
    let back = passed tt _ tests (sym c.record_notice.ensures.answer ∙ c.in_ok-record_notice.was) in
    let ready = c.in_ok-ready.ensures.meaning in
    let left_is = same_outcome _ _ refl (sym a.extent) refl refl (sym a.notices) refl refl refl refl refl refl in
    let out =
    ap (λ r. concluded e m (after_reading e m r)) (sym c.read.ensures.answer ∙ c.in_ok-notice.was) ∙
    granted e m (state_faults e m n) (noticed e m n) (passed_both (memory_faults e m) tests front back) ∙ left_is in
    record {
      outcome = out;
      kept = subst (λ (o : Outcome). Kept o.extent o.memory) left_is (notice_kept e m ready.0 ready.1 n c.in_ok-notice.ensures.lawful back.0 back.1);
      answers = answers_as e m c.args.bytes.now _ (ap (λ (o : Outcome). o.answer) out);
      lodges = lodges_as e m c.args.bytes.now _ (ap (λ (o : Outcome). o.answer) out);
    }
