-- Memory stays in order when a notice is taken.
use Rattle.std.proofs.Common.{◌≡◌, ℕ, ◌+◌, ◌<◌, ◌≤◌, false, not, List, length, get_or, set, unwrap_or, sym, ap, subst, ⊎_elim, arith, below_more}
use Rattle.day.proofs.Concluded.{Kept}
use Rattle.day.proofs.PartyKept.{pushed_below}
use Rattle.day.specs.Noticing.{party_unknown, notice_place, kind_faults, lodged, noticed}
use Rattle.memory.specs.declared.types.Extent.{Extent}
use Rattle.memory.specs.declared.types.NoticeRecord.{NoticeRecord}
use Rattle.memory.specs.declared.types.Point.{Point}
use Rattle.memory.specs.declared.types.Stage.{Stage}
use Rattle.memory.specs.declared.types.Stage.TheVariants.{Pending, Confirmed, Withdrawn}
use Rattle.memory.specs.Held.{Held, no_notice, party_number, notice, notice_number, notice_numbers}
use Rattle.memory.specs.Order.{Sized, InOrder, PointRight, NoticeRight, PartyEntered}
use Rattle.memory.specs.With.{with_notices, with_notice_count}
use Rattle.notice.specs.declared.types.Notice.{Notice}
use Rattle.notice.specs.declared.types.Notice.TheVariants.{Lodging, Confirmation, Withdrawal}
use Rattle.notice.specs.declared.types.Trade.{Trade}
use Rattle.notice.specs.Lawful.{Lawful}
use Rattle.notice.specs.Form.{stated}
use Rattle.refusal.proofs.Judging.{Passed}
use Rattle.register.proofs.Meaning.{distinct_more, distinct_same, decides_entered, decides_unborne}
use Rattle.register.specs.Numbers.{Distinct, Unborne}
use Rattle.std.proofs.lemmas.List.{length-set, get_or-set_same, get_or-set_other, set_past}
use Rattle.std.proofs.lemmas.Bool.{cases_eq, cases_lt, leb-false, not-false, or_parts}

-- memory with another register of notices, of the same length, in which each record is right
module _ (e : Extent) (m : Held) (used : ℕ) (ns : List NoticeRecord) (sized : Sized e m) (order : InOrder e m) where
  abbrev e' : Extent
  e' = with_notice_count e used

  abbrev m' : Held
  m' = with_notices m ns

  still_point : (p : Point) → PointRight e m p → PointRight e' m' p
  still_point p r = record { party = r.party; access = r.access; delivery = r.delivery }

  pub still_notice : (x : NoticeRecord) → NoticeRight e m x → NoticeRight e' m' x
  still_notice x r = record { sender = r.sender; partner = r.partner; trade = r.trade }

  pub renoticed : length ns ≡ length m.notices → used ≤ length ns → Distinct (notice_numbers ns) used → ((j : ℕ) → j < used → NoticeRight e' m' (get_or ns j no_notice)) → Kept e' m'
  renoticed long room numbers right =
      let r = order.registers in
      let f = order.figures in (
        record {
          parties = sized.parties;
          points = sized.points;
          notices = (room, omega (arith, sized.notices));
          readings = sized.readings;
          outside = sized.outside;
          imbalances = sized.imbalances;
          amounts = sized.amounts;
          billed = sized.billed;
          bills = sized.bills;
        },
        record {
          registers =
              record {
                parties = r.parties;
                points = r.points;
                points_right = λ x l. still_point _ (r.points_right x l);
                notices = numbers;
                notices_right = right;
              };
          figures = record { readings = f.readings; outside = f.outside; amounts = f.amounts; billed = f.billed };
        },
      )

-- a lodging
module _ (e : Extent) (m : Held) (t : Trade) (sized : Sized e m) (order : InOrder e m) where
  abbrev ns : List NoticeRecord
  ns = lodged e.notices m.notices t

  pub lodged_kept : e.notices < length m.notices → Unborne t.number (notice_number m) e.notices → NoticeRight e m (record { trade = t; stage = Pending }) → Kept (with_notice_count e (e.notices + 1)) (with_notices m ns)
  lodged_kept room new right =
      let k = e.notices in
      let x : NoticeRecord = record { trade = t; stage = Pending } in
      let long = length-set m.notices k x in
      let here = get_or-set_same m.notices k x no_notice room in
      let number = ap (λ (y : NoticeRecord). y.trade.number) here in
      renoticed e m (k + 1) ns sized order long (omega arith)
      (distinct_more (notice_number m) (notice_numbers ns) k (λ i l. ap (λ (y : NoticeRecord). y.trade.number) (pushed_below m.notices k x no_notice i l))
      order.registers.notices (λ z. absurd (omega (arith, right.trade.number.0, number, z))) (subst (λ n. Unborne n (notice_number m) k) (sym number) new))
      (below_more _ k
      (λ j l. subst (NoticeRight (with_notice_count e (k + 1)) (with_notices m ns)) (sym (pushed_below m.notices k x no_notice j l)) (still_notice e m (k + 1) ns sized order _ (order.registers.notices_right j l)))
      (subst (NoticeRight (with_notice_count e (k + 1)) (with_notices m ns)) (sym here) (still_notice e m (k + 1) ns sized order x right)))

-- the same trade at another stage
module _ (e : Extent) (m : Held) (j : ℕ) (s : Stage) (sized : Sized e m) (order : InOrder e m) where
  abbrev moved : NoticeRecord
  moved = record { trade = (notice m j).trade; stage = s }

  abbrev later : List NoticeRecord
  later = set m.notices j moved

  same_trades : (i : ℕ) → (get_or later i no_notice).trade ≡ (notice m i).trade
  same_trades i =
      ⊎_elim
      (λ is.
      ⊎_elim (λ room. rw is (ap (λ (x : NoticeRecord). x.trade) (get_or-set_same m.notices j moved no_notice room)))
      (λ past. ap (λ xs. (get_or xs i no_notice).trade) (set_past m.notices j moved past)) (cases_lt j (length m.notices)))
      (λ ne. ap (λ (x : NoticeRecord). x.trade) (get_or-set_other m.notices j i moved no_notice ne))
      (cases_eq i j)

  pub restaged_kept : Kept e (with_notices m later)
  restaged_kept =
      let long = length-set m.notices j moved in
      renoticed e m e.notices later sized order long (omega (arith, sized.notices))
      (distinct_same (notice_number m) (notice_numbers later) e.notices (λ i. ap (λ (t : Trade). t.number) (same_trades i)) order.registers.notices)
      (λ i l.
      let r = order.registers.notices_right i l in
      record {
        sender = subst (λ (t : Trade). PartyEntered e m t.sender) (sym (same_trades i)) r.sender;
        partner = subst (λ (t : Trade). PartyEntered e m t.partner) (sym (same_trades i)) r.partner;
        trade = subst (Lawful e.day.count) (sym (same_trades i)) r.trade;
      })

-- the parties of a trade that meets no refusal of an unknown party
pub parties_entered : (e : Extent) (m : Held) (t : Trade) → party_unknown e.parties m.parties t ≡ false → PartyEntered e m t.sender × PartyEntered e m t.partner
parties_entered e m t p =
    let q = or_parts _ _ p in (
      (decides_entered e.parties (party_number m) t.sender).0 (not-false _ q.0),
      (decides_entered e.parties (party_number m) t.partner).0 (not-false _ q.1),
    )

module _ (e : Extent) (m : Held) (sized : Sized e m) (order : InOrder e m) where
  pub notice_kept : (n : Notice) → Lawful e.day.count (stated n) → party_unknown e.parties m.parties (stated n) ≡ false → Passed (kind_faults e.notices m.notices n) → Kept (noticed e m n).extent (noticed e m n).memory
  notice_kept (Lodging t) lawful known p =
      let q = parties_entered e m t known in
      lodged_kept e m t sized order (leb-false _ _ p.1.0) ((decides_unborne e.notices (notice_number m) t.number).0 (ap not p.0))
      (record { sender = q.0; partner = q.1; trade = lawful })
  notice_kept (Confirmation t) lawful known p = restaged_kept e m (unwrap_or (notice_place e.notices m.notices t.number) 0) Confirmed sized order
  notice_kept (Withdrawal t) lawful known p = restaged_kept e m (unwrap_or (notice_place e.notices m.notices t.number) 0) Withdrawn sized order
