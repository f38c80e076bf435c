use Rattle.std.proofs.Common.{◌≡◌, true, ◌⊎◌, inl, inr, sym, ◌∙◌, arith}
use Rattle.memory.proofs.NumberSets.{knows_none, distinct_none, taken_in, refused}
use Rattle.memory.proofs.number_set.NumberSet.of_distinct.Goals as goal
use Rattle.memory.proofs.number_set.NumberSet.of_distinct.Goals.{then-number-eq-NO_NUMBER-via-then-number-eq-NO_NUMBER, then-number-eq-NO_NUMBER-via-else-number-eq-NO_NUMBER+then-not-insert}
use Rattle.memory.specs.NumberSets.{has}
use Rattle.register.proofs.Meaning.{at_read}
use Rattle.register.specs.Entering.{numbers}
use Rattle.std.proofs.lemmas.Bool.{not-true, not-false}

pub loop-record-init : goal.loop-record-init
loop-record-init g c = (distinct_none _, knows_none _ _ c.new-set.ensures)

pub loop-record-preserved : goal.loop-record-preserved
loop-record-preserved g c =
    let m = g.R.Numbered in
    let xs = c.args.records.now in
    let is = at_read m.numeral xs c.loop-record.record-index c.record-item.result c.number-number.result m.unset (omega arith) c.record-item.is c.number-number.ensures in
    taken_in c.loop-record.set (numbers m.numeral m.unset xs) c.loop-record.record-index c.number-number.result is c.loop-record.invariant.1 c.insert.new.self
    c.insert.ensures.members (omega arith) (not-true _ (sym c.insert.ensures.fresh ∙ c.if-not-insert.false)) c.loop-record.invariant.0

pub returns-then-number-eq-NO_NUMBER : goal.returns-then-number-eq-NO_NUMBER
returns-then-number-eq-NO_NUMBER g c =
    let m = g.R.Numbered in
    let xs = c.args.records.now in
    let is = at_read m.numeral xs c.loop-record.record-index c.record-item.result c.number-number.result m.unset (omega arith) c.record-item.is c.number-number.ensures in
    let why : (c.number-number.result ≡ 0) ⊎ (has c.loop-record.set c.number-number.result ≡ true) =
    elim c.then-number-eq-NO_NUMBER.branch [
      | then-number-eq-NO_NUMBER-via-then-number-eq-NO_NUMBER w ↦ inl (omega arith)
      | then-number-eq-NO_NUMBER-via-else-number-eq-NO_NUMBER+then-not-insert w ↦ inr (not-false _ (sym w.insert.ensures.fresh ∙ w.if-not-insert.true))
    ] in
    refused c.loop-record.set (numbers m.numeral m.unset xs) c.loop-record.record-index c.number-number.result is c.loop-record.invariant.1 why _ (omega arith)
