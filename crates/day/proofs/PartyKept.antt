-- Memory stays in order when a party is entered.
use Rattle.std.proofs.Common.{◌≡◌, ℕ, ◌+◌, ◌<◌, ◌≤◌, cond, not, ◌≢◌, List, length, get_or, set, sym, ap, ◌∙◌, subst, ⊎_elim, arith, below_more}
use lib.Signed.{le_z_yes}
use Rattle.day.proofs.Concluded.{Kept}
use Rattle.day.specs.Entering.{party_entered, party_faults}
use Rattle.memory.proofs.Renewed.{length_renewed, row_at, row_other}
use Rattle.memory.specs.declared.types.Extent.{Extent}
use Rattle.memory.specs.declared.types.Point.{Point}
use Rattle.memory.specs.declared.types.NoticeRecord.{NoticeRecord}
use Rattle.memory.specs.Held.{Held, no_party, no_outside, no_mills, party_number, point, notice, outside_of}
use Rattle.memory.specs.Limits.{OutsideRight, AmountRight}
use Rattle.memory.specs.Rows.{in_row}
use Rattle.std.proofs.lemmas.Bool.{cases_eq, leb-false}
use Rattle.memory.specs.Order.{Sized, InOrder, Registers, Figures, PointRight, NoticeRight}
use Rattle.refusal.proofs.Judging.{Passed}
use Rattle.register.proofs.Meaning.{entered_more, distinct_more, decides_unborne}
use Rattle.register.specs.Numbers.{Unborne}
use Rattle.std.proofs.lemmas.List.{length-set, get_or-set_same, get_or-set_other}
use Rattle.std.proofs.lemmas.Bool.Decides.{nat_tests}
use Rattle.units.specs.declared.Mills.{Mills}

-- the list with one more in place k
module _ {X : Type 0} (xs : List X) (k : ℕ) (v d : X) where
  pub pushed_below : (i : ℕ) → i < k → get_or (set xs k v) i d ≡ get_or xs i d
  pushed_below i l = let ne : i ≢ k = omega arith in get_or-set_other xs k i v d ne

-- a day has at most 100 quarter-hours
pub few_quarters : (e : Extent) → e.day.count ≤ 100
few_quarters e = let ok = e.day.ok in grind (arith, nat_tests)

nothing_right : OutsideRight no_outside
nothing_right = ((le_z_yes tt, le_z_yes tt), (le_z_yes tt, le_z_yes tt))

zero_right : AmountRight no_mills
zero_right = (le_z_yes tt, le_z_yes tt)

module _ (e : Extent) (m : Held) (n : ℕ) (sized : Sized e m) (order : InOrder e m) (room : e.parties < length m.parties) (named : n ≢ 0) (new : Unborne n (party_number m) e.parties) where
  abbrev k : ℕ
  k = e.parties

  abbrev e' : Extent
  e' = (party_entered e m n).extent

  abbrev m' : Held
  m' = (party_entered e m n).memory

  below : (i : ℕ) → i < k → party_number m' i ≡ party_number m i
  below i l = ap (λ p. p.number) (pushed_below m.parties k (record { number = n }) no_party i l)

  here : party_number m' k ≡ n
  here = ap (λ p. p.number) (get_or-set_same m.parties k (record { number = n }) no_party room)

  still_point : (p : Point) → PointRight e m p → PointRight e' m' p
  still_point p r = record { party = entered_more (party_number m) (party_number m') k below p.party r.party; access = r.access; delivery = r.delivery }

  still_notice : (x : NoticeRecord) → NoticeRight e m x → NoticeRight e' m' x
  still_notice x r =
      record {
        sender = entered_more (party_number m) (party_number m') k below x.trade.sender r.sender;
        partner = entered_more (party_number m) (party_number m') k below x.trade.partner r.partner;
        trade = r.trade;
      }

  registers_kept : Registers e' m'
  registers_kept =
      let r = order.registers in
      record {
        parties = distinct_more (party_number m) (party_number m') k below r.parties (λ z. named (sym here ∙ z)) (subst (λ x. Unborne x (party_number m) k) (sym here) new);
        points = r.points;
        points_right = λ x l. still_point (point m x) (r.points_right x l);
        notices = r.notices;
        notices_right = λ j l. still_notice (notice m j) (r.notices_right j l);
      }

  outside_kept : (i : ℕ) → i < k + 1 → (q : ℕ) → q < e.day.count → OutsideRight (outside_of m' i q)
  outside_kept i l q h =
      let c = few_quarters e in
      let s = sized.outside in
      ⊎_elim
      (λ is. subst OutsideRight (sym (ap (λ j. outside_of m' j q) is ∙ row_at k no_outside m.outside e.day.count q no_outside h (omega arith))) nothing_right)
      (λ ne. subst OutsideRight (sym (row_other k no_outside m.outside e.day.count i q no_outside c (omega arith) ne (omega arith))) (order.figures.outside i (omega arith) q h))
      (cases_eq i k)

  mills_kept : (xs : List Mills) → length xs ≡ length m.parties → ((i : ℕ) → i < k → AmountRight (get_or xs i no_mills)) → (i : ℕ) → i < k + 1 → AmountRight (get_or (set xs k no_mills) i no_mills)
  mills_kept xs long old =
      below_more _ k
      (λ i l. subst AmountRight (sym (pushed_below xs k no_mills no_mills i l)) (old i l))
      (subst AmountRight (sym (get_or-set_same xs k no_mills no_mills (omega arith))) zero_right)

  figures_kept : Figures e' m'
  figures_kept =
      let f = order.figures in
      record {
        readings = f.readings;
        outside = outside_kept;
        amounts = mills_kept m.amounts sized.amounts f.amounts;
        billed = mills_kept m.billed sized.billed f.billed;
      }

  sizes_kept : Sized e' m'
  sizes_kept =
      let p = length-set m.parties k (record { number = n }) in
      let o = length_renewed (λ j x. cond (in_row k e.day.count j) no_outside x) m.outside in
      let a = length-set m.amounts k no_mills in
      let b = length-set m.billed k no_mills in
      record {
        parties = (omega (arith, sized.parties), omega (arith, sized.parties));
        points = sized.points;
        notices = sized.notices;
        readings = sized.readings;
        outside = omega (arith, sized.outside);
        imbalances = omega (arith, sized.imbalances);
        amounts = omega (arith, sized.amounts);
        billed = omega (arith, sized.billed);
        bills = omega (arith, sized.bills);
      }

  pub party_kept : Kept e' m'
  party_kept = (sizes_kept, record { registers = registers_kept; figures = figures_kept })

-- the same from the tests
pub party_kept_passed : (e : Extent) (m : Held) (n : ℕ) → Sized e m → InOrder e m → n ≢ 0 → Passed (party_faults e.parties m.parties n) → Kept (party_entered e m n).extent (party_entered e m n).memory
party_kept_passed e m n sized order named p =
    party_kept e m n sized order (leb-false _ _ p.1.0) named ((decides_unborne e.parties (party_number m) n).0 (ap not p.0))
