-- What a call upon an open day gives.
use Rattle.day.specs.Entering.{entering_party}
use Rattle.day.specs.Noticing.{noticing}
use Rattle.day.specs.Outcome.{Outcome}
use Rattle.memory.specs.declared.types.Extent.{Extent}
use Rattle.memory.specs.Held.{Held}
use Rattle.store.specs.declared.types.Call.{Call}
use Rattle.store.specs.declared.types.Call.TheVariants.{EnterParty, Notice}

abbrev pub calling : Extent → Held → Call → Outcome
calling e m (EnterParty number) = entering_party e m number
calling e m (Notice bytes) = noticing e m bytes.now
