-- A set of numbers.
use Rattle.std.specs.Prelude.{◌≡◌, ℕ, Bool, false, slice_index_or}
use Rattle.memory.specs.declared.number_set.NumberSet.{NumberSet}

-- whether n is in a set
abbrev pub has : NumberSet → ℕ → Bool
has s n = slice_index_or s.member n false

-- just what a test finds is in a set
abbrev pub Holds : NumberSet → (ℕ → Bool) → Type 0
Holds s found = (n : ℕ) → has s n ≡ found n
