use Rattle.memory.proofs.NumberSets.{none_in}
use Rattle.memory.proofs.number_set.NumberSet.new.Goals as goal

pub returns : goal.returns
returns c = none_in 65536
