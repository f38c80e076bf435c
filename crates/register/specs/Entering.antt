-- What a register answers, and what it then holds.
use Rattle.std.specs.Prelude.{ℕ, min, Bool, List, [], ◌∷◌, length, nat_le, slice_index_or}
use Rattle.refusal.specs.declared.fault.Fault.{Fault}
use Rattle.refusal.specs.declared.fault.Fault.TheVariants.{NumberUsed, RegisterFull}
use Rattle.register.specs.Numbers.{knows}

module _ {R : Type 0} (numeral : R → ℕ) (unset : R) where
  -- the number of the record in a place
  abbrev pub numbers : List R → ℕ → ℕ
  numbers places k = numeral (slice_index_or places k unset)

  -- the places that hold records: the first `used` ones, of those that there are
  abbrev pub in_use : ℕ → List R → ℕ
  in_use used places = min used (length places)

  -- why a record cannot be entered: its number is used, or there is no place after the last
  abbrev pub entry_faults : ℕ → List R → R → List (Bool × Fault)
  entry_faults used places entry =
      (knows (in_use used places) (numbers places) (numeral entry), NumberUsed) ∷ (nat_le (length places) used, RegisterFull) ∷ []
