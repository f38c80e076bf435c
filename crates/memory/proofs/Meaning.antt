-- What the tests of sizes and order say.
use Rattle.std.proofs.Common.{◌≡◌, ℕ, ◌<◌, ◌≤◌, Bool, true, false, cond, ◌&&◌, T, eqb, leb, ℤ, ◌≤ℤ◌, Some, None, Decides, Option, refl, arith}
use lib.Signed.{le_z}
use Rattle.memory.specs.declared.types.Extent.{Extent}
use Rattle.memory.specs.declared.types.NoticeRecord.{NoticeRecord}
use Rattle.memory.specs.declared.types.Outside.{Outside}
use Rattle.memory.specs.declared.types.Point.{Point}
use Rattle.memory.specs.declared.types.Reading.{Reading}
use Rattle.memory.specs.Held.{Held, point, notice, party_number, point_number, notice_number, reading, outside_of, amount, sum_billed}
use Rattle.memory.specs.Limits.{Between, between, ReadingRight, OutsideRight, reading_fits, outside_fits, amount_fits}
use Rattle.memory.specs.Order.{Sized, sized, InOrder, Registers, Figures, RegistersPass, FiguresPass, PointRight, NoticeRight, AccessEntered, registers_in_order, figures_in_order, in_order, is_access, knows_party, knows_access, point_fits, notice_fits}
use Rattle.notice.proofs.Single.{decides_lawful}
use Rattle.register.proofs.Meaning.{decides_every, decides_entered, decides_distinct}
use Rattle.register.specs.Numbers.{every}
use Rattle.std.proofs.lemmas.Bool.{both_ways, leb-true}
use Rattle.std.proofs.lemmas.Bool.Decides.{Decides-and, Decides-below_or, Decides-like, Decides-eqb, nat_tests}

-- a test at each place; in each quarter-hour of each place
each_place : (n : ℕ) (p : ℕ → Bool) → Decides (every n p) ((k : ℕ) → k < n → p k ≡ true)
each_place n p = decides_every n p (λ k. p k ≡ true) (λ k. (λ t. t, λ t. t))

each_figure : (n w : ℕ) (p : ℕ → ℕ → Bool) → Decides (every n (λ i. every w (p i))) ((i : ℕ) → i < n → (q : ℕ) → q < w → p i q ≡ true)
each_figure n w p = decides_every n (λ i. every w (p i)) (λ i. (q : ℕ) → q < w → p i q ≡ true) (λ i. each_place w (p i))

module _ (e : Extent) (m : Held) where
  pub decides_sized : Decides (sized e m) (Sized e m)
  unfolding sized
  decides_sized = (
    λ t. record {
      parties = grind (arith, nat_tests);
      points = grind (arith, nat_tests);
      notices = grind (arith, nat_tests);
      readings = grind (arith, nat_tests);
      outside = grind (arith, nat_tests);
      imbalances = grind (arith, nat_tests);
      amounts = grind (arith, nat_tests);
      billed = grind (arith, nat_tests);
      bills = grind (arith, nat_tests);
    },
    λ s. grind (arith, nat_tests),
  )

  decides_registers_pass : Decides (registers_in_order e m) (RegistersPass e m)
  unfolding registers_in_order
  decides_registers_pass =
      Decides-like (registers_in_order e m)
      (λ p. record { parties = p.0; points = p.1.0; points_fit = p.1.1.0; notices = p.1.1.1.0; notices_fit = p.1.1.1.1 })
      (λ r. (r.parties, (r.points, (r.points_fit, (r.notices, r.notices_fit)))))
      (Decides-and _ _ (decides_distinct (party_number m) e.parties)
      (Decides-and _ _ (decides_distinct (point_number m) e.points)
      (Decides-and _ _ (each_place e.points (λ x. point_fits (knows_party e m) (knows_access e.points m.points) (point m x)))
      (Decides-and _ _ (decides_distinct (notice_number m) e.notices)
      (each_place e.notices (λ j. notice_fits (knows_party e m) e.day.count (notice m j)))))))

  decides_figures_pass : Decides (figures_in_order e m) (FiguresPass e m)
  unfolding figures_in_order
  decides_figures_pass =
      Decides-like (figures_in_order e m)
      (λ p. record { readings_fit = p.0; outside_fit = p.1.0; amounts_fit = p.1.1.0; billed_fit = p.1.1.1 })
      (λ r. (r.readings_fit, (r.outside_fit, (r.amounts_fit, r.billed_fit))))
      (Decides-and _ _ (each_figure e.points e.day.count (λ x q. reading_fits (reading m x q)))
      (Decides-and _ _ (each_figure e.parties e.day.count (λ i q. outside_fits (outside_of m i q)))
      (Decides-and _ _ (each_place e.parties (λ i. amount_fits (amount m i)))
      (each_place e.parties (λ i. amount_fits (sum_billed m i))))))

  pub decides_pass : Decides (in_order e m) (RegistersPass e m × FiguresPass e m)
  unfolding in_order
  decides_pass = Decides-and (registers_in_order e m) (figures_in_order e m) decides_registers_pass decides_figures_pass

-- The reader's words.

decides_is_true : (b : Bool) → Decides b (T b)
decides_is_true true = (λ _. tt, λ _. refl)
decides_is_true false = (λ t. absurd (both_ways false refl t), λ t. absurd t)

decides_int_le : (a b : ℤ) → Decides (le_z a b) (a ≤ℤ b)
decides_int_le a b = Decides-like _ (λ t. record { le = t }) (λ l. l.le) (decides_is_true (le_z a b))

decides_nat_le : (a b : ℕ) → Decides (leb a b) (a ≤ b)
decides_nat_le a b = (leb-true a b, λ l. grind (arith, nat_tests))

decides_cond : {H P Q : Type 0} (b x y : Bool) → Decides b H → Decides x P → Decides y Q → Decides (cond b x y) ((H → P) × ((H → ⊥) → Q))
decides_cond true x y h p q = (λ t. (λ _. p.0 t, λ ne. absurd (ne (h.0 refl))), λ f. p.1 (f.0 (h.0 refl)))
decides_cond false x y h p q = (λ t. (λ i. absurd (both_ways false refl (h.1 i)), λ _. q.0 t), λ f. q.1 (f.1 (λ i. both_ways false refl (h.1 i))))

decides_between : (low high z : ℤ) → Decides (between low high z) (Between low high z)
decides_between low high z = Decides-and (le_z low z) (le_z z high) (decides_int_le low z) (decides_int_le z high)

decides_reading : (r : Option Reading) → Decides (reading_fits r) (ReadingRight r)
decides_reading None = (λ _. tt, λ _. refl)
decides_reading (Some r) = Decides-and _ _ (decides_between _ _ r.injection.0) (decides_between _ _ r.offtake.0)

decides_outside : (o : Outside) → Decides (outside_fits o) (OutsideRight o)
decides_outside o = Decides-and _ _ (decides_between _ _ o.exchange.0) (decides_between _ _ o.correction.0)

module _ (e : Extent) (m : Held) where
  decides_access : (n : ℕ) → Decides (knows_access e.points m.points n) (AccessEntered e m n)
  unfolding knows_access
  decides_access n =
      Decides-like _ (λ s. (s.0, s.1, s.2.0, s.2.1)) (λ s. (s.0, s.1, (s.2, s.3)))
      (Decides-below_or (λ k. eqb (point m k).number n && is_access (point m k)) (λ k. ((point m k).number ≡ n) × ((point m k).head ≡ 0))
      (λ j. knows_access j m.points n)
      (λ k. Decides-and _ _ (Decides-eqb (point m k).number n) (Decides-eqb (point m k).head 0)) refl (λ j. refl) e.points)

  pub decides_point : (p : Point) → Decides (point_fits (knows_party e m) (knows_access e.points m.points) p) (PointRight e m p)
  decides_point p =
      Decides-like _ (λ s. record { party = s.0; access = s.1.0; delivery = s.1.1 }) (λ r. (r.party, (r.access, r.delivery)))
      (Decides-and _ _ (decides_entered e.parties (party_number m) p.party)
      (decides_cond (is_access p) (leb p.rate 1000) (knows_access e.points m.points p.head && eqb p.rate 0)
      (Decides-eqb p.head 0) (decides_nat_le p.rate 1000) (Decides-and _ _ (decides_access p.head) (Decides-eqb p.rate 0))))

  pub decides_notice : (n : NoticeRecord) → Decides (notice_fits (knows_party e m) e.day.count n) (NoticeRight e m n)
  decides_notice n =
      Decides-like _ (λ s. record { sender = s.0; partner = s.1.0; trade = s.1.1 }) (λ r. (r.sender, (r.partner, r.trade)))
      (Decides-and _ _ (decides_entered e.parties (party_number m) n.trade.sender)
      (Decides-and _ _ (decides_entered e.parties (party_number m) n.trade.partner) (decides_lawful e.day.count n.trade)))

  registers_words : (RegistersPass e m → Registers e m) × (Registers e m → RegistersPass e m)
  registers_words = (
    λ r. record {
      parties = r.parties;
      points = r.points;
      points_right = λ x l. (decides_point (point m x)).0 (r.points_fit x l);
      notices = r.notices;
      notices_right = λ j l. (decides_notice (notice m j)).0 (r.notices_fit j l);
    },
    λ r. record {
      parties = r.parties;
      points = r.points;
      points_fit = λ x l. (decides_point (point m x)).1 (r.points_right x l);
      notices = r.notices;
      notices_fit = λ j l. (decides_notice (notice m j)).1 (r.notices_right j l);
    },
  )

  figures_words : (FiguresPass e m → Figures e m) × (Figures e m → FiguresPass e m)
  figures_words = (
    λ f. record {
      readings = λ x l q k. (decides_reading (reading m x q)).0 (f.readings_fit x l q k);
      outside = λ i l q k. (decides_outside (outside_of m i q)).0 (f.outside_fit i l q k);
      amounts = λ i l. (decides_between _ _ (amount m i).0).0 (f.amounts_fit i l);
      billed = λ i l. (decides_between _ _ (sum_billed m i).0).0 (f.billed_fit i l);
    },
    λ f. record {
      readings_fit = λ x l q k. (decides_reading (reading m x q)).1 (f.readings x l q k);
      outside_fit = λ i l q k. (decides_outside (outside_of m i q)).1 (f.outside i l q k);
      amounts_fit = λ i l. (decides_between _ _ (amount m i).0).1 (f.amounts i l);
      billed_fit = λ i l. (decides_between _ _ (sum_billed m i).0).1 (f.billed i l);
    },
  )

  pub decides_in_order : Decides (in_order e m) (InOrder e m)
  decides_in_order =
      Decides-like (in_order e m)
      (λ p. record { registers = registers_words.0 p.0; figures = figures_words.0 p.1 })
      (λ o. (registers_words.1 o.registers, figures_words.1 o.figures))
      (decides_pass e m)
