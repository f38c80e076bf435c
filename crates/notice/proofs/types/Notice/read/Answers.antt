use Rattle.std.proofs.Common.{◌≡◌, ℕ, List, IfOk, Ok, Err, Result, sym, ◌∙◌, subst}
use Rattle.std.proofs.ByRecursion.{All-from_get_or}
use Rattle.std.specs.List.{AllByRecursion}
use Rattle.notice.proofs.Changed.{guarded}
use Rattle.notice.proofs.Single.{form_of, one_form, parsed, read_lawful}
use Rattle.notice.proofs.types.Notice.read.Goals as goal
use Rattle.notice.specs.declared.types.Notice.{Notice}
use Rattle.notice.specs.Form.{fields_of, notice_of, stated}
use Rattle.notice.specs.Lawful.{Lawful}
use Rattle.notice.specs.Packing.{Byte}
use Rattle.notice.specs.Promises.{Guarded, OneForm}
use Rattle.notice.specs.Reading.{reading}
use Rattle.refusal.specs.declared.fault.Fault.{Fault}

-- what holds of a notice that is read, and of its bytes
kept : (q : ℕ) (bs : List ℕ) → AllByRecursion Byte bs → (r : Result Notice Fault) → r ≡ reading q bs →
    IfOk r (λ n. Lawful q (stated n)) × IfOk r (OneForm bs) × IfOk r (λ _. Guarded bs)
kept q bs h (Ok n) e = (read_lawful q bs n (sym e), one_form q bs n h (sym e), subst Guarded (form_of q bs n h (sym e)) (guarded (fields_of n)))
kept q bs h (Err f) e = (tt, tt, tt)

pub returns : goal.returns
returns c =
    let bs = c.args.bytes.now in
    let q = c.args.quarters in
    let answer = c.notice.ensures.answer ∙ sym (parsed notice_of q bs _ (sym c.parse.ensures ∙ c.in_ok-fields.was)) in
    let k = kept q bs (All-from_get_or Byte bs 0 (λ i _. (c.type_inv.bytes i).fits)) c.notice.result answer in
    record { answer = answer; lawful = k.0; single = k.1; guarded = k.2 }
