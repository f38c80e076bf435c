use Rattle.memory.proofs.Registers.{parties_used, registers_pass, points_used, notices_used}
use Rattle.memory.proofs.order.registers_in_order.Goals as goal
use Rattle.memory.specs.Held.{held}
use Rattle.std.proofs.Common.{refl}
use Rattle.std.proofs.lemmas.Bool.{both_ways}

pub returns-in_default : goal.returns-in_default
returns-in_default c =
    let e = c.args.extent.now in
    let h = held c.args.memory.now in
    (λ f. absurd (both_ways _ refl f), λ r. absurd (c.in_default.ensures (parties_used e h c.requires r.parties)))

pub returns-then-points_in_order : goal.returns-then-points_in_order
returns-then-points_in_order c =
    let e = c.args.extent.now in
    let h = held c.args.memory.now in
    let set = c.in-Some.ensures in (
      λ t. registers_pass e h c.requires c.in-Some.parties set.1 set.0 (c.points_in_order.ensures.0 c.if-points_in_order.true) (c.notices_in_order.ensures.0 t),
      λ r. c.notices_in_order.ensures.1 (notices_used e h c.requires c.in-Some.parties set.1 r),
    )

pub returns-else-points_in_order : goal.returns-else-points_in_order
returns-else-points_in_order c =
    let e = c.args.extent.now in
    let h = held c.args.memory.now in
    let set = c.in-Some.ensures in
    (λ t. absurd (both_ways _ c.if-points_in_order.false t), λ r. c.points_in_order.ensures.1 (points_used e h c.requires c.in-Some.parties set.1 r))
