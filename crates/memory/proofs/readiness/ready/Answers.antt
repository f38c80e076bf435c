use Rattle.std.proofs.Common.{◌≡◌, true, false, not, sym, refl, ap, ◌∙◌, inl, inr}
use Rattle.memory.proofs.Meaning.{decides_sized, decides_in_order, decides_pass}
use Rattle.memory.proofs.readiness.ready.Goals as goal
use Rattle.memory.proofs.readiness.ready.Goals.{then-not-registers_in_order-via-then-not-registers_in_order, then-not-registers_in_order-via-else-not-registers_in_order+then-not-figures_in_order}
use Rattle.memory.specs.Held.{held}
use Rattle.memory.specs.Order.{RegistersPass, FiguresPass, sized, in_order}
use Rattle.std.proofs.lemmas.Bool.{cond-true, cond-false, both_ways, not-true}
use Rattle.std.proofs.lemmas.Bool.Decides.{same_from_decides, Decides-not}

pub returns-then-not-has_sizes : goal.returns-then-not-has_sizes
returns-then-not-has_sizes c =
    let e = c.args.extent.now in
    let h = held c.args.memory.now in
    let is : sized e h ≡ false = same_from_decides _ _ (decides_sized e h) c.has_sizes.ensures ∙ c.if-not-has_sizes.true in
    record { answer = sym (cond-true _ _ _ (ap not is)); meaning = inl (refl, λ s. both_ways (sized e h) is ((decides_sized e h).1 s)) }

pub returns-then-not-registers_in_order : goal.returns-then-not-registers_in_order
returns-then-not-registers_in_order c =
    let e = c.args.extent.now in
    let h = held c.args.memory.now in
    let is : sized e h ≡ true = same_from_decides _ _ (decides_sized e h) c.has_sizes.ensures ∙ c.if-not-has_sizes.false in
    let fails : RegistersPass e h × FiguresPass e h → ⊥ =
    λ p. elim c.then-not-registers_in_order.branch [
      | then-not-registers_in_order-via-then-not-registers_in_order w ↦ both_ways _ w.if-not-registers_in_order.true (c.registers_in_order.ensures.1 p.0)
      | then-not-registers_in_order-via-else-not-registers_in_order+then-not-figures_in_order w ↦ both_ways _ w.if-not-figures_in_order.true (w.figures_in_order.ensures.1 p.1)
    ] in
    let no' : in_order e h ≡ false = not-true _ ((Decides-not (in_order e h) (decides_pass e h)).1 fails) in
    record {
      answer = sym (cond-false _ _ _ (ap not is) ∙ cond-true _ _ _ (ap not no'));
      meaning = inr (refl, (decides_sized e h).0 is, λ o. both_ways (in_order e h) no' ((decides_in_order e h).1 o));
    }

pub returns : goal.returns
returns c =
    let e = c.args.extent.now in
    let h = held c.args.memory.now in
    let is : sized e h ≡ true = same_from_decides _ _ (decides_sized e h) c.has_sizes.ensures ∙ c.if-not-has_sizes.false in
    let yes' : in_order e h ≡ true = (decides_pass e h).1 (c.registers_in_order.ensures.0 c.if-not-registers_in_order.false, c.figures_in_order.ensures.0 c.if-not-figures_in_order.false) in
    record {
      answer = sym (cond-false _ _ _ (ap not is) ∙ cond-false _ _ _ (ap not yes'));
      meaning = ((decides_sized e h).0 is, (decides_in_order e h).0 yes');
    }
