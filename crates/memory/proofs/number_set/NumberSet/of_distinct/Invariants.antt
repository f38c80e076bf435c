use Rattle.memory.specs.NumberSets.{Holds}
use Rattle.register.specs.Entering.{numbers}
use Rattle.register.specs.Numbers.{Distinct, knows}
use Rattle.memory.proofs.number_set.NumberSet.of_distinct.Given as goal

abbrev pub invariant-loop-record : goal.invariant-loop-record
invariant-loop-record g l =
    Distinct (numbers g.R.Numbered.numeral g.R.Numbered.unset l.records) l.record-index
    × Holds l.set (knows l.record-index (numbers g.R.Numbered.numeral g.R.Numbered.unset l.records))
