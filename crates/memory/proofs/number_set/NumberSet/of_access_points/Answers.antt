use Rattle.std.proofs.Common.{sym, ◌∙◌}
use Rattle.memory.proofs.NumberSets.{access_none, access_more, access_same}
use Rattle.memory.proofs.number_set.NumberSet.of_access_points.Goals as goal
use Rattle.memory.proofs.number_set.NumberSet.of_access_points.Goals.{then-is_access, else-is_access}

pub loop-point-init : goal.loop-point-init
loop-point-init c = access_none _ _ c.new-set.ensures

pub loop-point-preserved : goal.loop-point-preserved
loop-point-preserved c =
    elim c.if-is_access.branch [
      | then-is_access w ↦ rw w.set-is (access_more _ _ c.args.points.now c.loop-point.point-index c.loop-point.invariant (sym c.is_access.ensures ∙ w.if-is_access.true) w.insert.ensures.members)
      | else-is_access w ↦ access_same _ _ c.args.points.now c.loop-point.point-index c.loop-point.invariant (sym c.is_access.ensures ∙ w.if-is_access.false) w.set-is
    ]
