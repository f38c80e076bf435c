use Rattle.std.proofs.Common.{sym, ◌∙◌}
use Rattle.memory.proofs.InUse.{figures_pass, readings_rows, outside_rows, amounts_part, billed_part}
use Rattle.memory.proofs.order.figures_in_order.Goals as goal
use Rattle.memory.proofs.order.figures_in_order.Goals.{then-rows_fit, else-rows_fit, then-rows_fit-2, else-rows_fit-2}
use Rattle.memory.specs.Held.{held}
use Rattle.std.proofs.lemmas.Bool.{both_ways}

pub returns-then-all_fit : goal.returns-then-all_fit
returns-then-all_fit c =
    let e = c.args.extent.now in
    let h = held c.args.memory.now in
    let s = c.requires in
    elim c.if-rows_fit-2.branch [
      | else-rows_fit-2 w ↦ absurd (both_ways _ (w.value-is ∙ w.if-rows_fit-2.false) c.if-all_fit.true)
      | then-rows_fit-2 w ↦ elim c.if-rows_fit.branch [
        | else-rows_fit v ↦ absurd (both_ways _ (v.value-is ∙ v.if-rows_fit.false) w.if-rows_fit-2.true)
        | then-rows_fit v ↦ (
          λ t. figures_pass e h s _ c.from-width.ensures (c.rows_fit.ensures.0 v.if-rows_fit.true) (v.rows_fit-then-rows_fit.ensures.0 (sym v.value-is ∙ w.if-rows_fit-2.true))
              (w.all_fit.ensures.0 (sym w.value-is ∙ c.if-all_fit.true)) (c.all_fit-then-all_fit.ensures.0 t),
          λ p. c.all_fit-then-all_fit.ensures.1 (billed_part e h s _ c.from-width.ensures p),
        )
      ]
    ]

pub returns-else-all_fit : goal.returns-else-all_fit
returns-else-all_fit c =
    let e = c.args.extent.now in
    let h = held c.args.memory.now in
    let s = c.requires in (
      λ t. absurd (both_ways _ c.if-all_fit.false t),
      λ p. elim c.if-rows_fit-2.branch [
        | then-rows_fit-2 w ↦ w.value-is ∙ w.all_fit.ensures.1 (amounts_part e h s _ c.from-width.ensures p)
        | else-rows_fit-2 w ↦ elim c.if-rows_fit.branch [
          | then-rows_fit v ↦ absurd (both_ways _ w.if-rows_fit-2.false (v.value-is ∙ v.rows_fit-then-rows_fit.ensures.1 (outside_rows e h s _ c.from-width.ensures p)))
          | else-rows_fit v ↦ absurd (both_ways _ v.if-rows_fit.false (c.rows_fit.ensures.1 (readings_rows e h s _ c.from-width.ensures p)))
        ]
      ],
    )
