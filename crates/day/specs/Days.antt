-- What a day keeps of itself, whatever its state.
use Rattle.day.specs.declared.types.OpenDay.{OpenDay}
use Rattle.day.specs.declared.types.ShutDay.{ShutDay}
use Rattle.memory.specs.declared.types.Extent.{Extent}

abbrev pub open_extent : OpenDay → Extent
open_extent d = d.extent

abbrev pub shut_extent : ShutDay → Extent
shut_extent d = d.extent
