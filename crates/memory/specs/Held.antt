-- What the brought memory holds, as plain lists, and what stands at a place.
use Rattle.std.specs.Borrow.{MutBor}
use Rattle.std.specs.Prelude.{ℕ, ◌+◌, ◌*◌, List, get_or, pos, None, Option, slice_index_or}
use Rattle.memory.specs.declared.types.Memory.{Memory}
use Rattle.memory.specs.declared.types.NoticeRecord.{NoticeRecord}
use Rattle.memory.specs.declared.types.Outside.{Outside}
use Rattle.memory.specs.declared.types.Party.{Party}
use Rattle.memory.specs.declared.types.Point.{Point}
use Rattle.memory.specs.declared.types.Reading.{Reading}
use Rattle.memory.specs.declared.types.Stage.TheVariants.{Pending}
use Rattle.notice.specs.declared.types.Direction.TheVariants.{Sells}
use Rattle.units.specs.declared.Kwh.{Kwh}
use Rattle.units.specs.declared.Mills.{Mills}

pub record Held : Type 0 where
  pub parties : List Party
  pub points : List Point
  pub notices : List NoticeRecord
  pub readings : List (Option Reading)
  pub outside : List Outside
  pub imbalances : List Kwh
  pub amounts : List Mills
  pub billed : List Mills
  pub bills : List Mills

-- what a memory holds when it is brought
abbrev pub held : Memory → Held
held m =
    record {
      parties = m.parties.now;
      points = m.points.now;
      notices = m.notices.now;
      readings = m.readings.now;
      outside = m.outside.now;
      imbalances = m.imbalances.now;
      amounts = m.amounts.now;
      billed = m.billed.now;
      bills = m.bills.now;
    }

-- what it holds when the call returns
abbrev pub Left : Type 0
Left =
    MutBor (List Party) × (MutBor (List Point) × (MutBor (List NoticeRecord) × (MutBor (List (Option Reading)) × (MutBor (List Outside)
    × (MutBor (List Kwh) × (MutBor (List Mills) × (MutBor (List Mills) × (MutBor (List Mills) × Unit {0}))))))))

abbrev pub left : Left → Held
left m =
    record {
      parties = m.0.now;
      points = m.1.0.now;
      notices = m.1.1.0.now;
      readings = m.1.1.1.0.now;
      outside = m.1.1.1.1.0.now;
      imbalances = m.1.1.1.1.1.0.now;
      amounts = m.1.1.1.1.1.1.0.now;
      billed = m.1.1.1.1.1.1.1.0.now;
      bills = m.1.1.1.1.1.1.1.1.0.now;
    }

abbrev pub no_party : Party
no_party = record { number = 0 }

abbrev pub no_point : Point
no_point = record { number = 0; party = 0; head = 0; rate = 0 }

abbrev pub no_notice : NoticeRecord
no_notice =
    record { trade = record { number = 0; sender = 0; partner = 0; direction = Sells; first = 0; last = 0; quantity = 0 }; stage = Pending }

abbrev pub no_kwh : Kwh
no_kwh = record { 0 = pos 0 }

abbrev pub no_outside : Outside
no_outside = record { exchange = no_kwh; correction = no_kwh }

abbrev pub no_mills : Mills
no_mills = record { 0 = pos 0 }

-- the numbers of a register, by place
abbrev pub party_numbers : List Party → ℕ → ℕ
party_numbers ps i = (get_or ps i no_party).number

abbrev pub point_numbers : List Point → ℕ → ℕ
point_numbers ps x = (get_or ps x no_point).number

abbrev pub notice_numbers : List NoticeRecord → ℕ → ℕ
notice_numbers ns j = (get_or ns j no_notice).trade.number

module _ (m : Held) where
  abbrev pub point : ℕ → Point
  point x = slice_index_or m.points x no_point

  abbrev pub notice : ℕ → NoticeRecord
  notice j = slice_index_or m.notices j no_notice

  abbrev pub party_number : ℕ → ℕ
  party_number i = party_numbers m.parties i

  abbrev pub point_number : ℕ → ℕ
  point_number x = point_numbers m.points x

  abbrev pub notice_number : ℕ → ℕ
  notice_number j = notice_numbers m.notices j

  -- the figures of a place in the quarter-hour q, counted from 0
  abbrev pub reading : ℕ → ℕ → Option Reading
  reading x q = slice_index_or m.readings (x * 100 + q) None

  abbrev pub outside_of : ℕ → ℕ → Outside
  outside_of i q = slice_index_or m.outside (i * 100 + q) no_outside

  abbrev pub amount : ℕ → Mills
  amount i = slice_index_or m.amounts i no_mills

  abbrev pub sum_billed : ℕ → Mills
  sum_billed i = slice_index_or m.billed i no_mills
