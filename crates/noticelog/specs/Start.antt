-- The day and the memory that the first notice meets.
use Rattle.std.specs.Prelude.{◌≡◌, ℕ, ◌+◌, ◌<◌, length}
use Rattle.memory.specs.declared.types.Extent.{Extent}
use Rattle.memory.specs.Held.{Held, party_number}
use Rattle.memory.specs.Order.{Sized, InOrder}

-- the parties are those numbered from 1 to the last, and the day is otherwise as it was before
pub record NumberedParties (before : Extent) (last : ℕ) (e : Extent) (m : Held) : Type 0 where
  pub day : e.day ≡ before.day
  pub points : e.points ≡ before.points
  pub notices : e.notices ≡ before.notices
  pub parties : e.parties ≡ last
  pub numbers : (i : ℕ) → i < last → party_number m i ≡ i + 1

-- a day of this number and count with these parties and no other record
pub record Started (its-number its-count last : ℕ) (e : Extent) (m : Held) : Type 0 where
  pub number : e.day.number ≡ its-number
  pub count : e.day.count ≡ its-count
  pub points : e.points ≡ 0
  pub notices : e.notices ≡ 0
  pub parties : e.parties ≡ last
  pub numbers : (i : ℕ) → i < last → party_number m i ≡ i + 1

-- day 2 of 96 quarter-hours with the parties 1 to the last and no other record, upon memory in order that has places for 8 parties,
-- no point and 64 notices
pub record Begun (last : ℕ) (e : Extent) (m : Held) : Type 0 where
  pub number : e.day.number ≡ 2
  pub count : e.day.count ≡ 96
  pub parties : e.parties ≡ last
  pub points : e.points ≡ 0
  pub notices : e.notices ≡ 0
  pub numbers : (i : ℕ) → i < last → party_number m i ≡ i + 1
  pub party_places : length m.parties ≡ 8
  pub point_places : length m.points ≡ 0
  pub notice_places : length m.notices ≡ 64
  pub sized : Sized e m
  pub in_order : InOrder e m
