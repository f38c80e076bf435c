-- Joining and splitting undo one another.
use Rattle.std.proofs.Common.{◌≡◌, ℕ, ◌+◌, ◌*◌, ◌/◌, ◌%◌, ◌^◌, ◌<◌, List, [], ◌∷◌, refl, add_assoc, mod-eq_of_lt, mul_assoc, add-mul, add_comm, zero-add, zero-mul, arith}
use Rattle.std.proofs.lemmas.Nat.{shr-shr, shr_high, mod_low, mod-pow-add, pow-add}
use Rattle.notice.specs.Packing.{total, join, split, Fit}

-- what stands before the fields
pub join_high : (n : ℕ) (ws vs : List ℕ) → Fit ws vs → join n ws vs / 2 ^ total ws ≡ n
join_high n [] [] h = omega arith
join_high n [] (v ∷ vs) h = absurd h
join_high n (w ∷ ws) [] h = absurd h
join_high n (w ∷ ws) (v ∷ vs) h = rw (add_comm w (total ws), ← shr-shr, join_high (n * 2 ^ w + v) ws vs h.1) (shr_high n w v h.0)

pub split_join : (n : ℕ) (ws vs : List ℕ) → Fit ws vs → split ws (join n ws vs) ≡ vs
split_join n [] [] h = refl
split_join n [] (v ∷ vs) h = absurd h
split_join n (w ∷ ws) [] h = absurd h
split_join n (w ∷ ws) (v ∷ vs) h =
    rw (join_high (n * 2 ^ w + v) ws vs h.1, split_join (n * 2 ^ w + v) ws vs h.1, mod_low n w v h.0)

pub join_split : (m : ℕ) (ws : List ℕ) (n : ℕ) → join m ws (split ws n) ≡ m * 2 ^ total ws + n % 2 ^ total ws
join_split m [] n = omega arith
join_split m (w ∷ ws) n =
    rw (join_split (m * 2 ^ w + n / 2 ^ total ws % 2 ^ w) ws n, mod-pow-add, pow-add, add-mul, mul_assoc, add_assoc)

pub join_whole : (ws : List ℕ) (n : ℕ) → n < 2 ^ total ws → join 0 ws (split ws n) ≡ n
join_whole ws n h = rw (join_split, zero-mul, zero-add) (mod-eq_of_lt h)
