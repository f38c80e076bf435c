use Rattle.std.proofs.Common.{◌-◌, ◌≤◌}
use Rattle.day.specs.Days.{open_extent}
use Rattle.noticelog.proofs.logged_day.LoggedDay.enter_parties.Given as goal
use Rattle.noticelog.proofs.Starting.{EnteredUpTo}
use Rattle.store.specs.Stored.{stored}

abbrev pub invariant-loop-number : goal.invariant-loop-number
invariant-loop-number l =
    record {
      within : l.number - 1 ≤ l.last;
      entered : EnteredUpTo (open_extent l.initial.self.day) (l.number - 1) (open_extent l.self.day) (stored l.self.store);
    }
