-- What an owner's memory holds, as plain lists.
use Rattle.std.specs.Prelude.{ℕ, ◌*◌, replicate, None, vec_items}
use Rattle.memory.specs.Held.{Held, no_party, no_point, no_notice, no_outside, no_kwh, no_mills}
use Rattle.store.specs.declared.types.Store.{Store}

abbrev pub stored : Store → Held
stored s =
    record {
      parties = vec_items s.parties;
      points = vec_items s.points;
      notices = vec_items s.notices;
      readings = vec_items s.readings;
      outside = vec_items s.outside;
      imbalances = vec_items s.imbalances;
      amounts = vec_items s.amounts;
      billed = vec_items s.billed;
      bills = vec_items s.bills;
    }

-- memory of the right sizes for so many parties, points and notices, in which no record stands
abbrev pub blank : ℕ → ℕ → ℕ → Held
blank parties points notices =
    record {
      parties = replicate parties no_party;
      points = replicate points no_point;
      notices = replicate notices no_notice;
      readings = replicate (points * 100) None;
      outside = replicate (parties * 100) no_outside;
      imbalances = replicate (parties * 100) no_kwh;
      amounts = replicate parties no_mills;
      billed = replicate parties no_mills;
      bills = replicate parties no_mills;
    }
