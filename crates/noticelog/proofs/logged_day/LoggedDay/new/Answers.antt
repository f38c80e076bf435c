use Rattle.std.proofs.Common.{subst}
use Rattle.day.specs.Opening.{Opened}
use Rattle.noticelog.proofs.logged_day.LoggedDay.new.Goals as goal
use Rattle.noticelog.proofs.Starting.{begun_none}

pub enter_parties-requires-clause-begun : goal.enter_parties-requires-clause-begun
enter_parties-requires-clause-begun c = begun_none _ _ (subst (Opened 2 96) c.unwrap-day.ensures c.open.ensures) c.in_ok-store.ensures
