-- Which numbers and counts of quarter-hours a delivery day may have.
use Rattle.std.specs.Prelude.{ℕ, Bool, ◌&&◌, ◌||◌, ◌==◌, nat_le}

-- a day has 92, 96 or 100 quarter-hours
abbrev pub is_count : ℕ → Bool
is_count n = n == 92 || (n == 96 || n == 100)

-- day numbers run from 1 to 60,000
abbrev pub is_day : ℕ → ℕ → Bool
is_day number count = (nat_le 1 number && nat_le number 60000) && is_count count
