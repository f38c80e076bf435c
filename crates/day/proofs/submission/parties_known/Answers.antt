use Rattle.std.proofs.Common.{◌≡◌, true, false, not, min, length, is_some, ap, sym, ◌∙◌}
use Rattle.day.proofs.submission.parties_known.Goals as goal
use Rattle.day.proofs.submission.parties_known.Goals.{then-is_none-via-then-is_none, then-is_none-via-else-is_none+then-is_none-2}
use Rattle.day.specs.Noticing.{party_unknown}
use Rattle.memory.specs.Held.{party_numbers}
use Rattle.register.proofs.Places.{known_place}
use Rattle.std.proofs.lemmas.Bool.{cond-true, cond-false, or_left, or_right, or_from}

pub returns-then-is_none : goal.returns-then-is_none
returns-then-is_none c =
    let ps = c.args.parties.now in
    let t = c.args.trade in
    let knows = known_place (min c.args.used (length ps)) (party_numbers ps) in
    let unknown : party_unknown (min c.args.used (length ps)) ps t ≡ true =
    elim c.then-is_none.branch [
      | then-is_none-via-then-is_none w ↦
          or_left _ _ (ap not (sym (knows t.sender) ∙ ap is_some (sym c.find_place.ensures.place) ∙ c.is_none.ensures ∙ ap not w.if-is_none.true))
      | then-is_none-via-else-is_none+then-is_none-2 w ↦
          or_right _ _ (ap not (sym (knows t.partner) ∙ ap is_some (sym w.find_place-else-is_none.ensures.place) ∙ w.is_none-else-is_none.ensures ∙ ap not w.if-is_none-2.true))
    ] in
    sym (cond-true _ _ _ unknown)

pub returns : goal.returns
returns c =
    let ps = c.args.parties.now in
    let t = c.args.trade in
    let knows = known_place (min c.args.used (length ps)) (party_numbers ps) in
    let unknown : party_unknown (min c.args.used (length ps)) ps t ≡ false =
    or_from _ _
    (ap not (sym (knows t.sender) ∙ ap is_some (sym c.find_place.ensures.place) ∙ c.is_none.ensures ∙ ap not c.if-is_none.false))
    (ap not (sym (knows t.partner) ∙ ap is_some (sym c.find_place-else-is_none.ensures.place) ∙ c.is_none-else-is_none.ensures ∙ ap not c.if-is_none-2.false)) in
    sym (cond-false _ _ _ unknown)
