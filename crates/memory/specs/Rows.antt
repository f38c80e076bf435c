-- Lists that are rewritten by place.
use Rattle.std.specs.Prelude.{ℕ, suc, ◌+◌, ◌*◌, Bool, cond, ◌&&◌, List, [], ◌∷◌, nat_le, nat_lt}

-- f of its place and what stood there, at each place from k on
abbrev pub renewed_from : {X : Type 0} → ℕ → (ℕ → X → X) → List X → List X
renewed_from k f [] = []
renewed_from k f (x ∷ xs) = f k x ∷ renewed_from (suc k) f xs

unfoldable pub renewed : {X : Type 0} → (ℕ → X → X) → List X → List X
renewed f xs = renewed_from 0 f xs

-- place k lies in the row of record i, in one of its first `count` quarter-hours
abbrev pub in_row : ℕ → ℕ → ℕ → Bool
in_row i count k = nat_le (i * 100) k && nat_lt k (i * 100 + count)

-- the figures with v in the first `count` quarter-hours of record i, and the others as they were
abbrev pub row_filled : {X : Type 0} → ℕ → ℕ → X → List X → List X
row_filled i count v xs = renewed (λ k x. cond (in_row i count k) v x) xs
