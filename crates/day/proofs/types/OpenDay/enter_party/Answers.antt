use Rattle.std.proofs.Common.{eqb, [], ◌∷◌, ◌++◌, sym, refl, ap, ◌∙◌}
use Rattle.day.proofs.Admitted.{admits_as, kept_then}
use Rattle.day.proofs.Concluded.{granted, refused_first, refused_later, same_outcome}
use Rattle.day.proofs.types.OpenDay.enter_party.Goals as goal
use Rattle.day.specs.Entering.{entering_faults, party_entered, party_faults}
use Rattle.day.specs.Outcome.{Outcome}
use Rattle.memory.specs.Held.{held}
use Rattle.memory.specs.Ready.{memory_faults}
use Rattle.refusal.proofs.Judging.{passed, passed_both}
use Rattle.refusal.specs.declared.fault.Fault.TheVariants.{Number}
use Rattle.std.proofs.lemmas.Result.{err_from_is_err_and}
use Rattle.std.proofs.lemmas.Bool.{cond-false, cond-true, eq-eqb, ne_eqb}

pub returns-then-number-eq-NO_NUMBER : goal.returns-then-number-eq-NO_NUMBER
returns-then-number-eq-NO_NUMBER c =
    let e = c.args.self.now.extent in
    let m = held c.args.memory in
    let n = c.args.number in
    let out = refused_first e m ((eqb n 0, Number) ∷ []) (memory_faults e m ++ party_faults e.parties m.parties n) (party_entered e m n) Number (cond-true (eqb n 0) _ _ (eq-eqb n 0 c.if-number-eq-NO_NUMBER.true)) in
    record { outcome = out; kept = tt; admits = admits_as e m n _ (ap (λ (o : Outcome). o.answer) out) }

pub returns-in_err-ready : goal.returns-in_err-ready
returns-in_err-ready c =
    let p = err_from_is_err_and c.from_residual.result c.from_residual.ensures.1 in
    let e = c.args.self.now.extent in
    let m = held c.args.memory in
    let n = c.args.number in
    let fault = cond-false (eqb n 0) _ _ (ne_eqb n 0 c.if-number-eq-NO_NUMBER.false) ∙ sym c.in_err-ready.ensures.answer in
    let out = refused_first e m ((eqb n 0, Number) ∷ memory_faults e m) (party_faults e.parties m.parties n) (party_entered e m n) _ fault in
    rw (p.1, p.2) (record { outcome = out; kept = tt; admits = admits_as e m n _ (ap (λ (o : Outcome). o.answer) out) })

pub returns-in_err-append_party : goal.returns-in_err-append_party
returns-in_err-append_party c =
    let p = err_from_is_err_and c.from_residual-in_err-append_party.result c.from_residual-in_err-append_party.ensures.1 in
    let e = c.args.self.now.extent in
    let m = held c.args.memory in
    let n = c.args.number in
    let a = c.in_err-append_party.ensures in
    let front = passed tt _ (memory_faults e m) (sym c.ready.ensures.answer ∙ c.in_ok-ready.was) in
    let refusal = refused_later e m ((eqb n 0, Number) ∷ memory_faults e m) (party_faults e.parties m.parties n) (party_entered e m n) _ (ne_eqb n 0 c.if-number-eq-NO_NUMBER.false, front) (sym a.answer) in
    let out = refusal ∙ same_outcome _ _ refl (sym a.extent) (sym a.parties) refl refl refl (sym a.outside) refl (sym a.amounts) (sym a.billed) refl in
    rw (p.1, p.2) (record { outcome = out; kept = tt; admits = admits_as e m n _ (ap (λ (o : Outcome). o.answer) out) })

pub returns : goal.returns
returns c =
    let e = c.args.self.now.extent in
    let m = held c.args.memory in
    let n = c.args.number in
    let a = c.in_ok-append_party.ensures in
    let front = passed tt _ (memory_faults e m) (sym c.ready.ensures.answer ∙ c.in_ok-ready.was) in
    let back = passed tt _ (party_faults e.parties m.parties n) (sym c.append_party.ensures.answer ∙ c.in_ok-append_party.was) in
    let grant = granted e m (entering_faults e m n) (party_entered e m n) (ne_eqb n 0 c.if-number-eq-NO_NUMBER.false, passed_both (memory_faults e m) (party_faults e.parties m.parties n) front back) in
    let out = grant ∙ same_outcome _ _ refl (sym a.extent) (sym a.parties) refl refl refl (sym a.outside) refl (sym a.amounts) (sym a.billed) refl in
    record { outcome = out; kept = kept_then e m n _ out; admits = admits_as e m n _ (ap (λ (o : Outcome). o.answer) out) }
