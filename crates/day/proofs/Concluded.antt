-- What tests in their order come to in an outcome.
use Rattle.std.proofs.Common.{◌≡◌, ℕ, Bool, true, false, List, [], ◌∷◌, ◌++◌, is_ok, Ok, Err, OnOk, Decides, Result, sym, refl, ap, ◌∙◌, append-nil, arith}
use Rattle.day.specs.Outcome.{Outcome, Grant, concluded}
use Rattle.memory.specs.declared.types.Extent.{Extent}
use Rattle.memory.specs.Held.{Held}
use Rattle.memory.proofs.Meaning.{decides_sized, decides_in_order}
use Rattle.memory.specs.Order.{Sized, InOrder}
use Rattle.memory.specs.Ready.{memory_faults}
use Rattle.refusal.proofs.Judging.{Passed, decides_passed, judged_all, judged_passed, judged_fault}
use Rattle.refusal.specs.declared.fault.Fault.{Fault}
use Rattle.refusal.specs.Judging.{judged}
use Rattle.std.proofs.lemmas.Bool.{not_from_true, not-false}
use Rattle.std.proofs.lemmas.Bool.Decides.{Decides-at}

-- the memory is in order after a grant
abbrev pub Kept : Extent → Held → Type 0
Kept e m = Sized e m × InOrder e m

refused_alike : {A B : Type 0} (us : List (Bool × Fault)) (a : A) (b : B) (f : Fault) → judged us a ≡ Err f → judged us b ≡ Err f
refused_alike us a b f r = rw (sym (append-nil us)) (judged_fault us [] a b f r)

module _ (e : Extent) (m : Held) where
  pub granted : (ts : List (Bool × Fault)) (g : Grant) → Passed ts → concluded e m (judged ts g) ≡ record { answer = Ok tt; extent = g.extent; memory = g.memory }
  granted ts g p = ap (concluded e m) (judged_all ts g p)

  -- the first tests pass, and those after them refuse
  pub refused_later : (ts us : List (Bool × Fault)) (g : Grant) (f : Fault) → Passed ts → judged {A = Unit {0}} us tt ≡ Err f → concluded e m (judged (ts ++ us) g) ≡ record { answer = Err f; extent = e; memory = m }
  refused_later ts us g f p r = ap (concluded e m) (judged_passed ts us g p ∙ refused_alike us tt g f r)

-- two outcomes are one where their parts are
pub same_outcome : (o p : Outcome) → o.answer ≡ p.answer → o.extent ≡ p.extent → o.memory.parties ≡ p.memory.parties →
    o.memory.points ≡ p.memory.points → o.memory.notices ≡ p.memory.notices → o.memory.readings ≡ p.memory.readings →
    o.memory.outside ≡ p.memory.outside → o.memory.imbalances ≡ p.memory.imbalances → o.memory.amounts ≡ p.memory.amounts →
    o.memory.billed ≡ p.memory.billed → o.memory.bills ≡ p.memory.bills → o ≡ p
same_outcome o p answer extent parties points notices readings outside imbalances amounts billed bills =
    λ j. record {
      answer = answer j;
      extent = extent j;
      memory =
          record {
            parties = parties j;
            points = points j;
            notices = notices j;
            readings = readings j;
            outside = outside j;
            imbalances = imbalances j;
            amounts = amounts j;
            billed = billed j;
            bills = bills j;
          };
    }

-- the first tests refuse
pub refused_first : (e : Extent) (m : Held) (ts us : List (Bool × Fault)) (g : Grant) (f : Fault) → judged {A = Unit {0}} ts tt ≡ Err f → concluded e m (judged (ts ++ us) g) ≡ record { answer = Err f; extent = e; memory = m }
refused_first e m ts us g f r = ap (concluded e m) (judged_fault ts us tt g f r)

-- what a granted outcome tells: no test held, and the day and memory are the granted ones
pub granted_back : (e : Extent) (m : Held) (ts : List (Bool × Fault)) (g : Grant) (o : Outcome) → concluded e m (judged ts g) ≡ o → o.answer ≡ Ok tt →
    Passed ts × (o.extent ≡ g.extent) × (o.memory ≡ g.memory)
granted_back e m [] g o is ok = (tt, ap (λ (p : Outcome). p.extent) (sym is), ap (λ (p : Outcome). p.memory) (sym is))
granted_back e m ((true, f) ∷ ts) g o is ok = let z : Err f ≡ Ok tt = ap (λ (p : Outcome). p.answer) is ∙ ok in let y : ◌≡◌ {A = ℕ} 0 1 = cc in absurd (omega arith)
granted_back e m ((false, f) ∷ ts) g o is ok = let r = granted_back e m ts g o is ok in ((refl, r.0), r.1, r.2)

-- the answer grants exactly where no test holds
pub answered_alike : (e : Extent) (m : Held) (x : Result Grant Fault) → is_ok (concluded e m x).answer ≡ is_ok x
answered_alike e m (Ok g) = refl
answered_alike e m (Err f) = refl

pub decides_granted : (e : Extent) (m : Held) (ts : List (Bool × Fault)) (g : Grant) (r : Result (Unit {0}) Fault) → (concluded e m (judged ts g)).answer ≡ r → Decides (is_ok r) (Passed ts)
decides_granted e m ts g r is = Decides-at _ _ (ap is_ok (sym is) ∙ answered_alike e m (judged ts g)) (decides_passed ts g)

-- memory that has its sizes and is in order meets no refusal
pub ready_passes : (e : Extent) (m : Held) → Sized e m → InOrder e m → Passed (memory_faults e m)
ready_passes e m sized order = (not_from_true _ ((decides_sized e m).1 sized), (not_from_true _ ((decides_in_order e m).1 order), tt))

-- and memory that meets none has its sizes and is in order
pub ready_told : (e : Extent) (m : Held) → Passed (memory_faults e m) → Kept e m
ready_told e m p = ((decides_sized e m).0 (not-false _ p.0), (decides_in_order e m).0 (not-false _ p.1.0))

on_grant : {P : Type 0} (r : Result (Unit {0}) Fault) → (r ≡ Ok tt → P) → OnOk r P
on_grant (Ok u) f = f refl
on_grant (Err x) f = tt

-- what is true of a grant is true of the outcome where it grants
pub kept_as : (e : Extent) (m : Held) (ts : List (Bool × Fault)) (g : Grant) (o : Outcome) → concluded e m (judged ts g) ≡ o → (Passed ts → Kept g.extent g.memory) → OnOk o.answer (Kept o.extent o.memory)
kept_as e m ts g o is kept =
    on_grant o.answer (λ ok. let b = granted_back e m ts g o is ok in rw (b.1, b.2) (kept b.0))
