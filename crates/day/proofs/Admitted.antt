-- On memory in order, a party is entered exactly when there is room for it.
use Rattle.std.proofs.Common.{◌≡◌, ℕ, not, OnOk, Result, ap}
use Rattle.day.proofs.Concluded.{Kept, decides_granted, kept_as, ready_passes, ready_told}
use Rattle.day.proofs.PartyKept.{party_kept_passed}
use Rattle.day.specs.Outcome.{Outcome}
use Rattle.day.specs.Entering.{Admits, entering_faults, entering_party, party_entered, party_faults}
use Rattle.memory.specs.declared.types.Extent.{Extent}
use Rattle.memory.specs.Held.{Held, party_number}
use Rattle.memory.specs.Ready.{memory_faults}
use Rattle.refusal.proofs.Judging.{passed_both, passed_parts}
use Rattle.refusal.specs.declared.fault.Fault.{Fault}
use Rattle.register.proofs.Meaning.{decides_unborne}
use Rattle.std.proofs.lemmas.Bool.{eqb-false, leb-false, lt-leb, ne_eqb, not-true}
use Rattle.std.proofs.lemmas.Bool.Decides.{Decides-like}

-- the law, of whatever answers as the outcome does
pub admits_as : (e : Extent) (m : Held) (n : ℕ) (r : Result (Unit {0}) Fault) → (entering_party e m n).answer ≡ r → Admits e m n r
unfolding Admits
admits_as e m n r is sized order =
    let tests = party_faults e.parties m.parties n in
    Decides-like _
    (λ p.
    let q = (passed_parts (memory_faults e m) tests p.1).1 in
    record { named = eqb-false n 0 p.0; new = (decides_unborne e.parties (party_number m) n).0 (ap not q.0); room = leb-false _ _ q.1.0 })
    (λ room.
    let new = not-true _ ((decides_unborne e.parties (party_number m) n).1 room.new) in
    (ne_eqb n 0 room.named, passed_both (memory_faults e m) tests (ready_passes e m sized order) (new, (lt-leb _ _ room.room, tt))))
    (decides_granted e m (entering_faults e m n) (party_entered e m n) r is)

-- and the memory is in order after a grant
pub kept_then : (e : Extent) (m : Held) (n : ℕ) (o : Outcome) → entering_party e m n ≡ o → OnOk o.answer (Kept o.extent o.memory)
kept_then e m n o is =
    let tests = party_faults e.parties m.parties n in
    kept_as e m (entering_faults e m n) (party_entered e m n) o is
    (λ p.
    let q = passed_parts (memory_faults e m) tests p.1 in
    let ready = ready_told e m q.0 in
    party_kept_passed e m n ready.0 ready.1 (eqb-false n 0 p.0) q.1)
