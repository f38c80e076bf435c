use Rattle.memory.specs.NumberSets.{Holds}
use Rattle.memory.specs.Order.{knows_access}
use Rattle.memory.proofs.number_set.NumberSet.of_access_points.Given as goal

abbrev pub invariant-loop-point : goal.invariant-loop-point
invariant-loop-point l = Holds l.set (knows_access l.point-index l.points)
