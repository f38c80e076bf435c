use Rattle.std.proofs.Common.{is_some, ap, ◌∙◌}
use Rattle.register.proofs.Places.{known_place}
use Rattle.register.proofs.register.Register.knows.Goals as goal

pub returns : goal.returns
returns g c = c.is_some.ensures ∙ ap is_some c.find.ensures.place ∙ known_place _ _ _
