-- On memory in order, a lodging is accepted exactly when there is room for it, a confirmation exactly when it mirrors a pending lodging,
-- and a withdrawal exactly when it repeats one.
use Rattle.std.proofs.Common.{◌≡◌, ℕ, true, false, not, List, ◌∷◌, is_ok, Some, None, Ok, Decides, Option, Result, sym, refl, ap, ◌∙◌, subst, MatchOption}
use Rattle.day.proofs.Concluded.{answered_alike, ready_passes}
use Rattle.day.proofs.NoticeKept.{parties_entered}
use Rattle.day.specs.Answering.{RoomForNotice, Waits, Answers, Lodges}
use Rattle.day.specs.Noticing.{party_unknown, notice_place, found_record, pending_in, lodging_faults, answer_faults, kind_faults, state_faults, noticed, after_reading, noticing}
use Rattle.memory.specs.declared.types.Extent.{Extent}
use Rattle.memory.specs.declared.types.NoticeRecord.{NoticeRecord}
use Rattle.memory.specs.declared.types.Stage.{Stage}
use Rattle.memory.specs.declared.types.Stage.TheVariants.{Pending, Confirmed, Withdrawn}
use Rattle.memory.specs.Held.{Held, party_number, notice, notice_number}
use Rattle.memory.specs.Order.{Sized, InOrder, PartyEntered}
use Rattle.memory.specs.Pending.{is_pending}
use Rattle.memory.specs.Ready.{memory_faults}
use Rattle.notice.proofs.Mirrored.{decides_same_trade}
use Rattle.notice.specs.declared.types.Notice.{Notice}
use Rattle.notice.specs.declared.types.Notice.TheVariants.{Lodging, Confirmation, Withdrawal}
use Rattle.notice.specs.declared.types.Trade.{Trade}
use Rattle.notice.specs.Mirror.{mirror, same_trade}
use Rattle.notice.specs.Reading.{reading}
use Rattle.notice.specs.Form.{stated}
use Rattle.refusal.proofs.Judging.{Passed, decides_passed, passed_both, passed_parts}
use Rattle.refusal.specs.declared.fault.Fault.{Fault}
use Rattle.refusal.specs.declared.fault.Fault.TheVariants.{UnknownParty}
use Rattle.refusal.specs.Judging.{judged}
use Rattle.register.proofs.Meaning.{apart, decides_entered, decides_unborne}
use Rattle.register.proofs.Places.{place_found}
use Rattle.register.specs.Numbers.{Unborne, FirstAt}
use Rattle.std.proofs.lemmas.Bool.{both_ways, leb-false, lt-leb, not-false, not_from_true, not-true, or_from}
use Rattle.std.proofs.lemmas.Bool.Decides.{Decides-at}

pending_is : (s : Stage) → is_pending s ≡ true → s ≡ Pending
pending_is Pending e = refl
pending_is Confirmed e = absurd (both_ways false refl e)
pending_is Withdrawn e = absurd (both_ways false refl e)

same_record : (x : NoticeRecord) (t : Trade) → x.trade ≡ t → x.stage ≡ Pending → x ≡ record { trade = t; stage = Pending }
same_record x t p q = λ j. record { trade = p j; stage = q j }

module _ (e : Extent) (m : Held) (order : InOrder e m) where
  abbrev k : ℕ
  k = e.notices

  -- what was found for a trade that waits, and for one that was found
  waits_found : (t : Trade) (o : Option ℕ) → MatchOption o (Unborne t.number (notice_number m) k) (FirstAt t.number (notice_number m) k) →
      pending_in k m.notices o ≡ true → same_trade (found_record k m.notices o).trade t ≡ true → Waits e m t
  waits_found t None h p s = absurd (both_ways false refl p)
  waits_found t (Some j) h p s = (j, h.0, same_record (notice m j) t ((decides_same_trade (notice m j).trade t).0 s) (pending_is (notice m j).stage p))

  found_waits : (t : Trade) (o : Option ℕ) → MatchOption o (Unborne t.number (notice_number m) k) (FirstAt t.number (notice_number m) k) → Waits e m t →
      (pending_in k m.notices o ≡ true) × (same_trade (found_record k m.notices o).trade t ≡ true)
  found_waits t None h w = absurd (h w.0 w.1 (ap (λ (x : NoticeRecord). x.trade.number) w.2))
  found_waits t (Some i) h w =
      let same : i ≡ w.0 = apart (notice_number m) k order.registers.notices i w.0 h.0 w.1 (h.1 ∙ sym (ap (λ (x : NoticeRecord). x.trade.number) w.2)) in
      let it = ap (notice m) same ∙ w.2 in (
        ap (λ (x : NoticeRecord). is_pending x.stage) it,
        (decides_same_trade (notice m i).trade t).1 (ap (λ (x : NoticeRecord). x.trade) it),
      )

  -- the tests of an answer pass exactly when the trade waits
  answer_passes : (t : Trade) → (Passed (answer_faults k m.notices t) → Waits e m t) × (Waits e m t → Passed (answer_faults k m.notices t))
  answer_passes t =
      let o = notice_place k m.notices t.number in
      let f = place_found k (notice_number m) t.number in (
        λ p. waits_found t o f (not-false _ p.0) (not-false _ p.1.0),
        λ w. let q = found_waits t o f w in (not_from_true _ q.0, (not_from_true _ q.1, tt)),
      )

  -- the parties of a trade that waits are entered
  waiting_parties : (t : Trade) → Waits e m t → PartyEntered e m t.sender × PartyEntered e m t.partner
  waiting_parties t w =
      let r = order.registers.notices_right w.0 w.1 in (
        subst (λ (x : NoticeRecord). PartyEntered e m x.trade.sender) w.2 r.sender,
        subst (λ (x : NoticeRecord). PartyEntered e m x.trade.partner) w.2 r.partner,
      )

  known : (t : Trade) → PartyEntered e m t.sender → PartyEntered e m t.partner → party_unknown e.parties m.parties t ≡ false
  known t s p =
      or_from _ _ (not_from_true _ ((decides_entered e.parties (party_number m) t.sender).1 s)) (not_from_true _ ((decides_entered e.parties (party_number m) t.partner).1 p))

  -- the tests of a lodging pass exactly when there is room for it
  lodging_passes : (t : Trade) → (Passed ((party_unknown e.parties m.parties t, UnknownParty) ∷ lodging_faults k m.notices t) → RoomForNotice e m t)
      × (RoomForNotice e m t → Passed ((party_unknown e.parties m.parties t, UnknownParty) ∷ lodging_faults k m.notices t))
  lodging_passes t = (
    λ p. let q = parties_entered e m t p.0 in
        record { sender = q.0; partner = q.1; new = (decides_unborne k (notice_number m) t.number).0 (ap not p.1.0); room = leb-false _ _ p.1.1.0 },
    λ r. (known t r.sender r.partner, (not-true _ ((decides_unborne k (notice_number m) t.number).1 r.new), (lt-leb _ _ r.room, tt))),
  )

  -- a notice whose tests after those of the memory pass exactly when P holds
  accepted : (P : Type 0) (n : Notice) → let tests = (party_unknown e.parties m.parties (stated n), UnknownParty) ∷ kind_faults k m.notices n in
      (Passed tests → P) → (P → Passed tests) → Sized e m → Decides (is_ok (judged (state_faults e m n) (noticed e m n))) P
  accepted P n there back s =
      let d = decides_passed (state_faults e m n) (noticed e m n) in
      let tests = (party_unknown e.parties m.parties (stated n), UnknownParty) ∷ kind_faults k m.notices n in (
        λ ok. there (passed_parts (memory_faults e m) tests (d.0 ok)).1,
        λ p. d.1 (passed_both (memory_faults e m) tests (ready_passes e m s order) (back p)),
      )

-- whether a notice that is read so is accepted
read_as : (e : Extent) (m : Held) (bytes : List ℕ) (r : Result (Unit {0}) Fault) (n : Notice) → (noticing e m bytes).answer ≡ r → reading e.day.count bytes ≡ Ok n →
    is_ok r ≡ is_ok (judged (state_faults e m n) (noticed e m n))
read_as e m bytes r n is h = ap is_ok (sym is) ∙ answered_alike e m (after_reading e m (reading e.day.count bytes)) ∙ ap (λ x. is_ok (after_reading e m x)) h

-- the laws, of whatever answers as the outcome does
pub answers_as : (e : Extent) (m : Held) (bytes : List ℕ) (r : Result (Unit {0}) Fault) → (noticing e m bytes).answer ≡ r → Answers e m bytes r
unfolding Answers
answers_as e m bytes r is s order t = (
  λ h. Decides-at _ _ (read_as e m bytes r (Confirmation t) is h)
      (accepted e m order _ (Confirmation t) (λ p. (answer_passes e m order (mirror t)).0 p.1)
      (λ w. let q = waiting_parties e m order (mirror t) w in (known e m order t q.1 q.0, (answer_passes e m order (mirror t)).1 w)) s),
  λ h. Decides-at _ _ (read_as e m bytes r (Withdrawal t) is h)
      (accepted e m order _ (Withdrawal t) (λ p. (answer_passes e m order t).0 p.1)
      (λ w. let q = waiting_parties e m order t w in (known e m order t q.0 q.1, (answer_passes e m order t).1 w)) s),
)

pub lodges_as : (e : Extent) (m : Held) (bytes : List ℕ) (r : Result (Unit {0}) Fault) → (noticing e m bytes).answer ≡ r → Lodges e m bytes r
unfolding Lodges
lodges_as e m bytes r is s order t h =
    Decides-at _ _ (read_as e m bytes r (Lodging t) is h) (accepted e m order _ (Lodging t) (lodging_passes e m order t).0 (lodging_passes e m order t).1 s)
