use Rattle.std.proofs.Common.{is_ok, ap, arith}
use Rattle.noticelog.proofs.logged_day.LoggedDay.enter_parties.Goals as goal
use Rattle.noticelog.proofs.Starting.{entered_next}

pub unwrap-requires : goal.unwrap-requires
unwrap-requires c =
    let l = c.loop-number in
    ap is_ok (entered_next l.invariant.entered (omega arith) _ l.number (omega arith) (omega arith) _ c.enter_party.ensures).0

pub loop-number-preserved : goal.loop-number-preserved
loop-number-preserved c =
    let l = c.loop-number in
    record { within = omega arith; entered = (entered_next l.invariant.entered (omega arith) _ _ (omega arith) (omega arith) _ c.enter_party.ensures).1 }

pub returns-2 : goal.returns-2
returns-2 c =
    let l = c.loop-number in
    let all = (entered_next l.invariant.entered (omega arith) _ c.args.last (omega arith) (omega arith) _ c.enter_party.ensures).1 in
    record { numbered = all.numbered; begun = all.begun }
