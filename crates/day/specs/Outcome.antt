-- What a call upon an open day gives: its answer, and the day and all memory that it leaves.
use Rattle.std.specs.Prelude.{Ok, Err, Result}
use Rattle.memory.specs.declared.types.Extent.{Extent}
use Rattle.memory.specs.Held.{Held}
use Rattle.refusal.specs.declared.fault.Fault.{Fault}

pub record Outcome : Type 0 where
  pub answer : Result (Unit {0}) Fault
  pub extent : Extent
  pub memory : Held

-- what a grant leaves
pub record Grant : Type 0 where
  pub extent : Extent
  pub memory : Held

-- a refusal leaves the day and all memory as they were
abbrev pub concluded : Extent → Held → Result Grant Fault → Outcome
concluded e m (Ok g) = record { answer = Ok tt; extent = g.extent; memory = g.memory }
concluded e m (Err f) = record { answer = Err f; extent = e; memory = m }
