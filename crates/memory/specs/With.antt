-- The memory, or the extent of the day, with one part of it renewed.
use Rattle.std.specs.Prelude.{ℕ, List}
use Rattle.memory.specs.declared.types.Extent.{Extent}
use Rattle.memory.specs.declared.types.NoticeRecord.{NoticeRecord}
use Rattle.memory.specs.declared.types.Outside.{Outside}
use Rattle.memory.specs.declared.types.Party.{Party}
use Rattle.memory.specs.Held.{Held}
use Rattle.units.specs.declared.Mills.{Mills}

module _ (m : Held) where
  abbrev pub with_parties : List Party → Held
  with_parties ps =
      record {
        parties = ps;
        points = m.points;
        notices = m.notices;
        readings = m.readings;
        outside = m.outside;
        imbalances = m.imbalances;
        amounts = m.amounts;
        billed = m.billed;
        bills = m.bills;
      }

  abbrev pub with_notices : List NoticeRecord → Held
  with_notices ns =
      record {
        parties = m.parties;
        points = m.points;
        notices = ns;
        readings = m.readings;
        outside = m.outside;
        imbalances = m.imbalances;
        amounts = m.amounts;
        billed = m.billed;
        bills = m.bills;
      }

  abbrev pub with_outside : List Outside → Held
  with_outside os =
      record {
        parties = m.parties;
        points = m.points;
        notices = m.notices;
        readings = m.readings;
        outside = os;
        imbalances = m.imbalances;
        amounts = m.amounts;
        billed = m.billed;
        bills = m.bills;
      }

  abbrev pub with_amounts : List Mills → Held
  with_amounts as' =
      record {
        parties = m.parties;
        points = m.points;
        notices = m.notices;
        readings = m.readings;
        outside = m.outside;
        imbalances = m.imbalances;
        amounts = as';
        billed = m.billed;
        bills = m.bills;
      }

  abbrev pub with_billed : List Mills → Held
  with_billed bs =
      record {
        parties = m.parties;
        points = m.points;
        notices = m.notices;
        readings = m.readings;
        outside = m.outside;
        imbalances = m.imbalances;
        amounts = m.amounts;
        billed = bs;
        bills = m.bills;
      }

module _ (e : Extent) where
  abbrev pub with_party_count : ℕ → Extent
  with_party_count n = record { day = e.day; parties = n; points = e.points; notices = e.notices }

  abbrev pub with_notice_count : ℕ → Extent
  with_notice_count n = record { day = e.day; parties = e.parties; points = e.points; notices = n }
