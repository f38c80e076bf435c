-- What a notice to an open day gives.
use Rattle.std.specs.Prelude.{ℕ, ◌+◌, Bool, not, ◌&&◌, ◌||◌, List, [], ◌∷◌, ◌++◌, length, is_some, Ok, Err, Option, Result, nat_le, slice_index_or, slice_set}
use Rattle.day.specs.Outcome.{Outcome, Grant, concluded}
use Rattle.memory.specs.declared.types.Extent.{Extent}
use Rattle.memory.specs.declared.types.NoticeRecord.{NoticeRecord}
use Rattle.memory.specs.declared.types.Party.{Party}
use Rattle.memory.specs.declared.types.Stage.{Stage}
use Rattle.memory.specs.declared.types.Stage.TheVariants.{Pending, Confirmed, Withdrawn}
use Rattle.memory.specs.Held.{Held, no_notice, party_numbers, notice_numbers}
use Rattle.memory.specs.Pending.{is_pending}
use Rattle.memory.specs.Ready.{memory_faults}
use Rattle.memory.specs.With.{with_notices, with_notice_count}
use Rattle.notice.specs.declared.types.Notice.{Notice}
use Rattle.notice.specs.declared.types.Notice.TheVariants.{Lodging, Confirmation, Withdrawal}
use Rattle.notice.specs.declared.types.Trade.{Trade}
use Rattle.notice.specs.Form.{stated}
use Rattle.notice.specs.Mirror.{mirror, same_trade}
use Rattle.notice.specs.Reading.{reading}
use Rattle.refusal.specs.declared.fault.Fault.{Fault}
use Rattle.refusal.specs.declared.fault.Fault.TheVariants.{UnknownParty, NumberUsed, RegisterFull, NotPending, Mismatch}
use Rattle.refusal.specs.Judging.{judged}
use Rattle.register.specs.Numbers.{knows, place_of}
use Rattle.std.specs.Option.{unwrap_or}

-- its sender or its partner is not among the parties
abbrev pub party_unknown : ℕ → List Party → Trade → Bool
party_unknown used parties t = not (knows used (party_numbers parties) t.sender) || not (knows used (party_numbers parties) t.partner)

-- the register of notices, of whose places so many are used
module _ (used : ℕ) (notices : List NoticeRecord) where
  -- the place of the notice with this number
  abbrev pub notice_place : ℕ → Option ℕ
  notice_place n = place_of used (notice_numbers notices) n

  -- the record in a place that was looked for, and whether it is a pending one
  abbrev pub found_record : Option ℕ → NoticeRecord
  found_record o = slice_index_or notices (unwrap_or o 0) no_notice

  abbrev pub pending_in : Option ℕ → Bool
  pending_in o = is_some o && is_pending (found_record o).stage

  -- a lodging takes a new number and the place after the last
  abbrev pub lodging_faults : Trade → List (Bool × Fault)
  lodging_faults t = (knows used (notice_numbers notices) t.number, NumberUsed) ∷ (nat_le (length notices) used, RegisterFull) ∷ []

  -- an answer finds the notice of its number pending, and lodged as the trade that it answers
  abbrev pub answer_faults : Trade → List (Bool × Fault)
  answer_faults t =
      let o = notice_place t.number in
      (not (pending_in o), NotPending) ∷ (not (same_trade (found_record o).trade t), Mismatch) ∷ []

  -- a confirmation answers the trade that it mirrors, a withdrawal the one that it repeats
  abbrev pub kind_faults : Notice → List (Bool × Fault)
  kind_faults (Lodging t) = lodging_faults t
  kind_faults (Confirmation t) = answer_faults (mirror t)
  kind_faults (Withdrawal t) = answer_faults t

  -- the register with a pending record after the last; with the notice of this number at another stage
  abbrev pub lodged : Trade → List NoticeRecord
  lodged t = slice_set notices used (record { trade = t; stage = Pending })

  abbrev pub restaged : ℕ → Stage → List NoticeRecord
  restaged n s = let o = notice_place n in slice_set notices (unwrap_or o 0) (record { trade = (found_record o).trade; stage = s })

  -- the register after a granted notice, and how many of its places are used
  abbrev pub recorded : Notice → List NoticeRecord
  recorded (Lodging t) = lodged t
  recorded (Confirmation t) = restaged t.number Confirmed
  recorded (Withdrawal t) = restaged t.number Withdrawn

abbrev pub used_after : ℕ → Notice → ℕ
used_after used (Lodging t) = used + 1
used_after used (Confirmation t) = used
used_after used (Withdrawal t) = used

module _ (e : Extent) (m : Held) where
  -- the tests of a notice that was read, on memory in order; and those of the state
  abbrev pub notice_faults : Notice → List (Bool × Fault)
  notice_faults n = (party_unknown e.parties m.parties (stated n), UnknownParty) ∷ kind_faults e.notices m.notices n

  abbrev pub state_faults : Notice → List (Bool × Fault)
  state_faults n = memory_faults e m ++ notice_faults n

  abbrev pub noticed : Notice → Grant
  noticed n =
      record { extent = with_notice_count e (used_after e.notices n); memory = with_notices m (recorded e.notices m.notices n) }

  abbrev pub after_reading : Result Notice Fault → Result Grant Fault
  after_reading (Err f) = Err f
  after_reading (Ok n) = judged (state_faults n) (noticed n)

abbrev pub noticing : Extent → Held → List ℕ → Outcome
noticing e m bytes = concluded e m (after_reading e m (reading e.day.count bytes))
