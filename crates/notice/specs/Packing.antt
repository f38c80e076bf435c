-- Values packed into one number, most significant bit first, by a list of widths; and the check of bytes.
use Rattle.std.specs.Prelude.{ℕ, ◌+◌, ◌*◌, ◌/◌, ◌%◌, ◌^◌, ◌<◌, List, [], ◌∷◌}

abbrev pub total : List ℕ → ℕ
total [] = 0
total (w ∷ ws) = w + total ws

-- the number that begins with n and goes on with these values, each in its width
abbrev pub join : ℕ → List ℕ → List ℕ → ℕ
join n [] vs = n
join n (w ∷ ws) [] = n
join n (w ∷ ws) (v ∷ vs) = join (n * 2 ^ w + v) ws vs

-- the values in the last fields of a number, of these widths
abbrev pub split : List ℕ → ℕ → List ℕ
split [] n = []
split (w ∷ ws) n = n / 2 ^ total ws % 2 ^ w ∷ split ws n

-- each value has room in its width
abbrev pub Fit : List ℕ → List ℕ → Type 0
Fit [] [] = Unit {0}
Fit [] (v ∷ vs) = ⊥
Fit (w ∷ ws) [] = ⊥
Fit (w ∷ ws) (v ∷ vs) = (v < 2 ^ w) × Fit ws vs

abbrev pub Byte : ℕ → Type 0
Byte b = b < 2 ^ 8

-- eight bits for each byte
abbrev pub eights : List ℕ → List ℕ
eights [] = []
eights (b ∷ bs) = 8 ∷ eights bs

-- the number that begins with n and goes on with these bytes
abbrev pub gathered : ℕ → List ℕ → ℕ
gathered n bs = join n (eights bs) bs

abbrev pub twelve : List ℕ
twelve = 8 ∷ 8 ∷ 8 ∷ 8 ∷ 8 ∷ 8 ∷ 8 ∷ 8 ∷ 8 ∷ 8 ∷ 8 ∷ 8 ∷ []

abbrev pub two : List ℕ
two = 8 ∷ 8 ∷ []

-- the sum of each byte times its place, the first place being i
abbrev pub weighted : ℕ → List ℕ → ℕ
weighted i [] = 0
weighted i (b ∷ bs) = i * b + weighted (i + 1) bs

abbrev pub check_of : List ℕ → ℕ
check_of bs = weighted 1 bs % 257
