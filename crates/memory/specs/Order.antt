-- When memory has its sizes, and when it is in order.
use Rattle.std.specs.Prelude.{◌≡◌, ℕ, ◌*◌, ◌<◌, ◌≤◌, Bool, true, cond, ◌&&◌, ◌≢◌, List, length, get_or, ◌==◌, nat_le, slice_index_or}
use Rattle.memory.specs.declared.types.Extent.{Extent}
use Rattle.memory.specs.declared.types.NoticeRecord.{NoticeRecord}
use Rattle.memory.specs.declared.types.Point.{Point}
use Rattle.memory.specs.Held.{Held, no_point, point, notice, party_number, point_number, notice_number, reading, outside_of, amount, sum_billed}
use Rattle.memory.specs.Limits.{ReadingRight, OutsideRight, AmountRight, reading_fits, outside_fits, amount_fits}
use Rattle.notice.specs.Lawful.{Lawful, lawful}
use Rattle.register.specs.Numbers.{Entered, Distinct, every, some, knows, distinct}

abbrev pub is_access : Point → Bool
is_access p = p.head == 0

module _ (e : Extent) (m : Held) where
  -- each register has at least as many places as records, and no more than its limit; each kind of figure has its size
  pub record Sized : Type 0 where
    pub parties : (e.parties ≤ length m.parties) × (length m.parties ≤ 64)
    pub points : (e.points ≤ length m.points) × (length m.points ≤ 256)
    pub notices : (e.notices ≤ length m.notices) × (length m.notices ≤ 512)
    pub readings : length m.readings ≡ length m.points * 100
    pub outside : length m.outside ≡ length m.parties * 100
    pub imbalances : length m.imbalances ≡ length m.parties * 100
    pub amounts : length m.amounts ≡ length m.parties
    pub billed : length m.billed ≡ length m.parties
    pub bills : length m.bills ≡ length m.parties

  -- n is the number of an entered party; of an entered access point
  abbrev pub PartyEntered : ℕ → Type 0
  PartyEntered n = Entered e.parties (party_number m) n

  abbrev pub AccessEntered : ℕ → Type 0
  AccessEntered n = (x : ℕ) × (x < e.points) × (point_number m x ≡ n) × ((point m x).head ≡ 0)

  -- The point's party is entered. An access point has a rate of at most 1,000 ten-thousandths;
  -- a delivery point has an entered access point for its head, and the rate 0.
  pub record PointRight (p : Point) : Type 0 where
    pub party : PartyEntered p.party
    pub access : p.head ≡ 0 → p.rate ≤ 1000
    pub delivery : p.head ≢ 0 → AccessEntered p.head × (p.rate ≡ 0)

  -- sender and partner are entered, and the trade is lawful in this day
  pub record NoticeRight (n : NoticeRecord) : Type 0 where
    pub sender : PartyEntered n.trade.sender
    pub partner : PartyEntered n.trade.partner
    pub trade : Lawful e.day.count n.trade

  -- in each register the used numbers differ and are not 0, and each record is right
  pub record Registers : Type 0 where
    pub parties : Distinct (party_number m) e.parties
    pub points : Distinct (point_number m) e.points
    pub points_right : (x : ℕ) → x < e.points → PointRight (point m x)
    pub notices : Distinct (notice_number m) e.notices
    pub notices_right : (j : ℕ) → j < e.notices → NoticeRight (notice m j)

  -- the figures of each record are within their limits, in each quarter-hour of the day
  pub record Figures : Type 0 where
    pub readings : (x : ℕ) → x < e.points → (q : ℕ) → q < e.day.count → ReadingRight (reading m x q)
    pub outside : (i : ℕ) → i < e.parties → (q : ℕ) → q < e.day.count → OutsideRight (outside_of m i q)
    pub amounts : (i : ℕ) → i < e.parties → AmountRight (amount m i)
    pub billed : (i : ℕ) → i < e.parties → AmountRight (sum_billed m i)

  -- memory is in order
  pub record InOrder : Type 0 where
    pub registers : Registers
    pub figures : Figures

  -- The same as tests.
  unfoldable pub sized : Bool
  sized =
      nat_le e.parties (length m.parties) && nat_le (length m.parties) 64
      && nat_le e.points (length m.points) && nat_le (length m.points) 256
      && nat_le e.notices (length m.notices) && nat_le (length m.notices) 512
      && length m.readings == length m.points * 100
      && length m.outside == length m.parties * 100
      && length m.imbalances == length m.parties * 100
      && length m.amounts == length m.parties
      && length m.billed == length m.parties
      && length m.bills == length m.parties

  abbrev pub knows_party : ℕ → Bool
  knows_party n = knows e.parties (party_number m) n

-- whether n is the number of an access point among the first i points
unfoldable pub knows_access : ℕ → List Point → ℕ → Bool
knows_access i ps n = some i (λ k. ((get_or ps k no_point).number == n) && is_access (slice_index_or ps k no_point))

-- by tests for entered parties and access points
abbrev pub point_fits : (ℕ → Bool) → (ℕ → Bool) → Point → Bool
point_fits entered access p = entered p.party && cond (is_access p) (nat_le p.rate 1000) (access p.head && p.rate == 0)

abbrev pub notice_fits : (ℕ → Bool) → ℕ → NoticeRecord → Bool
notice_fits entered quarters n = entered n.trade.sender && (entered n.trade.partner && lawful quarters n.trade)

module _ (e : Extent) (m : Held) where
  pub record RegistersPass : Type 0 where
    pub parties : Distinct (party_number m) e.parties
    pub points : Distinct (point_number m) e.points
    pub points_fit : (x : ℕ) → x < e.points → point_fits (knows_party e m) (knows_access e.points m.points) (point m x) ≡ true
    pub notices : Distinct (notice_number m) e.notices
    pub notices_fit : (j : ℕ) → j < e.notices → notice_fits (knows_party e m) e.day.count (notice m j) ≡ true

  pub record FiguresPass : Type 0 where
    pub readings_fit : (x : ℕ) → x < e.points → (q : ℕ) → q < e.day.count → reading_fits (reading m x q) ≡ true
    pub outside_fit : (i : ℕ) → i < e.parties → (q : ℕ) → q < e.day.count → outside_fits (outside_of m i q) ≡ true
    pub amounts_fit : (i : ℕ) → i < e.parties → amount_fits (amount m i) ≡ true
    pub billed_fit : (i : ℕ) → i < e.parties → amount_fits (sum_billed m i) ≡ true

  unfoldable pub registers_in_order : Bool
  registers_in_order =
      distinct (party_number m) e.parties
      && (distinct (point_number m) e.points
      && (every e.points (λ x. point_fits (knows_party e m) (knows_access e.points m.points) (point m x))
      && (distinct (notice_number m) e.notices
      && every e.notices (λ j. notice_fits (knows_party e m) e.day.count (notice m j)))))

  unfoldable pub figures_in_order : Bool
  figures_in_order =
      every e.points (λ x. every e.day.count (λ q. reading_fits (reading m x q)))
      && (every e.parties (λ i. every e.day.count (λ q. outside_fits (outside_of m i q)))
      && (every e.parties (λ i. amount_fits (amount m i)) && every e.parties (λ i. amount_fits (sum_billed m i))))

  unfoldable pub in_order : Bool
  in_order = registers_in_order && figures_in_order
