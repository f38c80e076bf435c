-- When a confirmation or a withdrawal is accepted, in the words of the parties.
use Rattle.std.specs.Prelude.{◌≡◌, ℕ, ◌<◌, List, length, is_ok, Ok, Decides, Result}
use Rattle.memory.specs.declared.types.Extent.{Extent}
use Rattle.memory.specs.declared.types.Stage.TheVariants.{Pending}
use Rattle.memory.specs.Held.{Held, notice, notice_number}
use Rattle.memory.specs.Order.{Sized, InOrder, PartyEntered}
use Rattle.notice.specs.declared.types.Notice.TheVariants.{Lodging, Confirmation, Withdrawal}
use Rattle.notice.specs.declared.types.Trade.{Trade}
use Rattle.notice.specs.Mirror.{mirror}
use Rattle.notice.specs.Reading.{reading}
use Rattle.refusal.specs.declared.fault.Fault.{Fault}
use Rattle.register.specs.Numbers.{Unborne}

-- this very trade is lodged and waits
abbrev pub Waits : Extent → Held → Trade → Type 0
Waits e m t = (j : ℕ) × (j < e.notices) × (notice m j ≡ record { trade = t; stage = Pending })

-- on memory in order, a confirmation is accepted exactly when it mirrors a pending lodging, and a withdrawal exactly when it repeats one
unfoldable pub Answers : Extent → Held → List ℕ → Result (Unit {0}) Fault → Type 0
Answers e m bytes r =
    Sized e m → InOrder e m → (t : Trade) →
    (reading e.day.count bytes ≡ Ok (Confirmation t) → Decides (is_ok r) (Waits e m (mirror t)))
    × (reading e.day.count bytes ≡ Ok (Withdrawal t) → Decides (is_ok r) (Waits e m t))

-- both parties of the trade are entered, its number is new, and there is a place after the last
pub record RoomForNotice (e : Extent) (m : Held) (t : Trade) : Type 0 where
  pub sender : PartyEntered e m t.sender
  pub partner : PartyEntered e m t.partner
  pub new : Unborne t.number (notice_number m) e.notices
  pub room : e.notices < length m.notices

-- on memory in order, a lodging is accepted exactly when there is room for it
unfoldable pub Lodges : Extent → Held → List ℕ → Result (Unit {0}) Fault → Type 0
Lodges e m bytes r =
    Sized e m → InOrder e m → (t : Trade) → reading e.day.count bytes ≡ Ok (Lodging t) → Decides (is_ok r) (RoomForNotice e m t)
