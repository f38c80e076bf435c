-- What the entry of a party gives.
use Rattle.std.specs.Prelude.{ℕ, ◌+◌, ◌<◌, Bool, ◌≢◌, List, [], ◌∷◌, ◌++◌, length, is_ok, Decides, Result, ◌==◌, nat_le, slice_set}
use Rattle.day.specs.Outcome.{Outcome, Grant, concluded}
use Rattle.memory.specs.declared.types.Extent.{Extent}
use Rattle.memory.specs.declared.types.Party.{Party}
use Rattle.memory.specs.Held.{Held, no_mills, no_outside, party_number, party_numbers}
use Rattle.memory.specs.Order.{Sized, InOrder}
use Rattle.memory.specs.Ready.{memory_faults}
use Rattle.memory.specs.Rows.{row_filled}
use Rattle.memory.specs.With.{with_parties, with_outside, with_amounts, with_billed, with_party_count}
use Rattle.refusal.specs.declared.fault.Fault.{Fault}
use Rattle.refusal.specs.declared.fault.Fault.TheVariants.{Number, NumberUsed, RegisterFull}
use Rattle.refusal.specs.Judging.{judged}
use Rattle.register.specs.Numbers.{Unborne, knows}

-- the number is used, or there is no place after the last
abbrev pub party_faults : ℕ → List Party → ℕ → List (Bool × Fault)
party_faults used parties n =
    (knows used (party_numbers parties) n, NumberUsed) ∷ (nat_le (length parties) used, RegisterFull) ∷ []

-- the party in the place after the last; its outside figures, amount and sum billed are zero
abbrev pub party_entered : Extent → Held → ℕ → Grant
party_entered e m n =
    let at = e.parties in
    record {
      extent = with_party_count e (at + 1);
      memory =
          with_billed
          (with_amounts
          (with_outside (with_parties m (slice_set m.parties at (record { number = n }))) (row_filled at e.day.count no_outside m.outside))
          (slice_set m.amounts at no_mills))
          (slice_set m.billed at no_mills);
    }

abbrev pub entering_faults : Extent → Held → ℕ → List (Bool × Fault)
entering_faults e m n = ((n == 0), Number) ∷ (memory_faults e m ++ party_faults e.parties m.parties n)

abbrev pub entering_party : Extent → Held → ℕ → Outcome
entering_party e m n = concluded e m (judged (entering_faults e m n) (party_entered e m n))

-- the number is a number, it is new, and there is a place after the last
pub record RoomForParty (e : Extent) (m : Held) (n : ℕ) : Type 0 where
  pub named : n ≢ 0
  pub new : Unborne n (party_number m) e.parties
  pub room : e.parties < length m.parties

-- on memory in order, a party is entered exactly when there is room for it
unfoldable pub Admits : Extent → Held → ℕ → Result (Unit {0}) Fault → Type 0
Admits e m n r = Sized e m → InOrder e m → Decides (is_ok r) (RoomForParty e m n)
