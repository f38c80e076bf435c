-- What the tests of the records in use say of the registers.
use Rattle.std.proofs.Common.{◌≡◌, ℕ, zero, suc, ◌<◌, Bool, true, ◌&&◌, eqb, List, length, take, All, refl, ap, sym, ◌∙◌, arith, length-take}
use Rattle.std.proofs.lemmas.List.{get_or-take}
use Rattle.memory.proofs.InUse.{of_part, on_part}
use Rattle.memory.specs.declared.number_set.NumberSet.{NumberSet}
use Rattle.memory.specs.declared.types.Extent.{Extent}
use Rattle.memory.specs.declared.types.NoticeRecord.{NoticeRecord}
use Rattle.memory.specs.declared.types.Party.{Party}
use Rattle.memory.specs.declared.types.Point.{Point}
use Rattle.memory.specs.Held.{Held, no_party, no_point, no_notice, party_numbers, point_numbers, notice_numbers, party_number, point_number, notice_number, point, notice}
use Rattle.memory.specs.NumberSets.{has, Holds}
use Rattle.memory.specs.Order.{Sized, RegistersPass, is_access, knows_party, knows_access, point_fits, notice_fits}
use Rattle.register.specs.Numbers.{some, knows, Distinct}

-- tests and numbers that agree below n
some_like : (n : ℕ) (p q : ℕ → Bool) → ((k : ℕ) → k < n → p k ≡ q k) → some n p ≡ some n q
some_like zero p q same = refl
some_like (suc n) p q same = rw (same n (omega arith), some_like n p q (λ k l. same k (omega arith))) refl

module _ (f g : ℕ → ℕ) (n : ℕ) (same : (k : ℕ) → k < n → f k ≡ g k) where
  knows_like : (k : ℕ) → knows n f k ≡ knows n g k
  unfolding knows
  knows_like k = some_like n _ _ (λ j l. ap (λ x. eqb x k) (same j l))

  distinct_like : Distinct f n → Distinct g n
  unfolding Distinct
  distinct_like all k l = (λ z. (all k l).0 (same k l ∙ z), λ j h e. (all k l).1 j h (same j (omega arith) ∙ e ∙ sym (same k l)))

-- tests of records by sets that agree
point_like : (f f' g g' : ℕ → Bool) (p : Point) → ((n : ℕ) → f n ≡ f' n) → ((n : ℕ) → g n ≡ g' n) → point_fits f g p ≡ point_fits f' g' p
point_like f f' g g' p e d = rw (e p.party, d p.head) refl

notice_like : (f f' : ℕ → Bool) (quarters : ℕ) (n : NoticeRecord) → ((k : ℕ) → f k ≡ f' k) → notice_fits f quarters n ≡ notice_fits f' quarters n
notice_like f f' quarters n e = rw (e n.trade.sender, e n.trade.partner) refl

module _ (e : Extent) (m : Held) (s : Sized e m) where
  abbrev ps : List Party
  ps = take e.parties m.parties

  abbrev xs : List Point
  xs = take e.points m.points

  abbrev ns : List NoticeRecord
  ns = take e.notices m.notices

  parties_long : length ps ≡ e.parties
  parties_long = omega (arith, s.parties, length-take e.parties m.parties)

  points_long : length xs ≡ e.points
  points_long = omega (arith, s.points, length-take e.points m.points)

  notices_long : length ns ≡ e.notices
  notices_long = omega (arith, s.notices, length-take e.notices m.notices)

  party_same : (k : ℕ) → k < e.parties → party_numbers ps k ≡ party_number m k
  party_same k l = ap (λ (p : Party). p.number) (get_or-take e.parties m.parties k no_party l)

  point_same : (k : ℕ) → k < e.points → point_numbers xs k ≡ point_number m k
  point_same k l = ap (λ (p : Point). p.number) (get_or-take e.points m.points k no_point l)

  notice_same : (k : ℕ) → k < e.notices → notice_numbers ns k ≡ notice_number m k
  notice_same k l = ap (λ (n : NoticeRecord). n.trade.number) (get_or-take e.notices m.notices k no_notice l)

  access_alike : (n : ℕ) → knows_access e.points xs n ≡ knows_access e.points m.points n
  unfolding knows_access
  access_alike n = some_like e.points _ _ (λ k l. ap (λ (p : Point). eqb p.number n && is_access p) (get_or-take e.points m.points k no_point l))

  pub parties_pass : Distinct (party_numbers ps) (length ps) → Distinct (party_number m) e.parties
  parties_pass d = distinct_like (party_numbers ps) (party_number m) e.parties party_same (rw parties_long at d)

  pub parties_used : Distinct (party_number m) e.parties → Distinct (party_numbers ps) (length ps)
  parties_used d = rw parties_long (distinct_like (party_number m) (party_numbers ps) e.parties (λ k l. sym (party_same k l)) d)

  -- the set has the parties
  module _ (set : NumberSet) (holds : Holds set (knows (length ps) (party_numbers ps))) where
    abbrev pub PointsUsed : Type 0
    PointsUsed = Distinct (point_numbers xs) (length xs) × All (λ p. point_fits (has set) (knows_access (length xs) xs) p ≡ true) xs

    abbrev pub NoticesUsed : Type 0
    NoticesUsed = Distinct (notice_numbers ns) (length ns) × All (λ n. notice_fits (has set) e.day.count n ≡ true) ns

    its_parties : (n : ℕ) → has set n ≡ knows_party e m n
    its_parties n = holds n ∙ ap (λ k. knows k (party_numbers ps) n) parties_long ∙ knows_like (party_numbers ps) (party_number m) e.parties party_same n

    its_access : (n : ℕ) → knows_access (length xs) xs n ≡ knows_access e.points m.points n
    its_access n = ap (λ k. knows_access k xs n) points_long ∙ access_alike n

    pub registers_pass : Distinct (party_numbers ps) (length ps) → PointsUsed → NoticesUsed → RegistersPass e m
    registers_pass d p n = record {
      parties = parties_pass d;
      points = distinct_like (point_numbers xs) (point_number m) e.points point_same (rw points_long at p.0);
      points_fit = λ x l. sym (point_like _ _ _ _ (point m x) its_parties its_access) ∙ of_part (λ p. point_fits (has set) (knows_access (length xs) xs) p ≡ true) m.points e.points no_point (omega (arith, s.points)) p.1 x l;
      notices = distinct_like (notice_numbers ns) (notice_number m) e.notices notice_same (rw notices_long at n.0);
      notices_fit = λ j l. sym (notice_like _ _ _ (notice m j) its_parties) ∙ of_part (λ n. notice_fits (has set) e.day.count n ≡ true) m.notices e.notices no_notice (omega (arith, s.notices)) n.1 j l;
    }

    pub points_used : RegistersPass e m → PointsUsed
    points_used r = (
      rw points_long (distinct_like (point_number m) (point_numbers xs) e.points (λ k l. sym (point_same k l)) r.points),
      on_part (λ p. point_fits (has set) (knows_access (length xs) xs) p ≡ true) m.points e.points no_point (omega (arith, s.points)) (λ x l. point_like _ _ _ _ (point m x) its_parties its_access ∙ r.points_fit x l),
    )

    pub notices_used : RegistersPass e m → NoticesUsed
    notices_used r = (
      rw notices_long (distinct_like (notice_number m) (notice_numbers ns) e.notices (λ k l. sym (notice_same k l)) r.notices),
      on_part (λ n. notice_fits (has set) e.day.count n ≡ true) m.notices e.notices no_notice (omega (arith, s.notices)) (λ j l. notice_like _ _ _ (notice m j) its_parties ∙ r.notices_fit j l),
    )
