-- The numbers of a register by place: f k is the number of the record in place k.
use Rattle.std.specs.Prelude.{◌≡◌, ℕ, zero, suc, ◌<◌, Bool, true, false, cond, not, ◌&&◌, ◌||◌, ◌≢◌, Some, None, Option, ◌==◌, nat_eq}

-- some of the first used places bears the number n
abbrev pub Entered : ℕ → (ℕ → ℕ) → ℕ → Type 0
Entered used f n = (k : ℕ) × (k < used) × (f k ≡ n)

-- none of the first i places bears the number n
abbrev pub Unborne : ℕ → (ℕ → ℕ) → ℕ → Type 0
Unborne n f i = (k : ℕ) → k < i → f k ≢ n

-- place i is the first of the used ones that bears the number n
abbrev pub FirstAt : ℕ → (ℕ → ℕ) → ℕ → ℕ → Type 0
FirstAt n f used i = (i < used) × (f i ≡ n) × Unborne n f i

-- none of the used numbers is 0, and each stands at one place only
unfoldable pub Distinct : (ℕ → ℕ) → ℕ → Type 0
Distinct f used = (k : ℕ) → k < used → (f k ≢ 0) × Unborne (f k) f k

-- The same as tests.

-- a test passes at each place below n; at some place below n
abbrev pub every : ℕ → (ℕ → Bool) → Bool
every zero p = true
every (suc n) p = p n && every n p

abbrev pub some : ℕ → (ℕ → Bool) → Bool
some zero p = false
some (suc n) p = p n || some n p

unfoldable pub knows : ℕ → (ℕ → ℕ) → ℕ → Bool
knows used f n = some used (λ k. nat_eq (f k) n)

unfoldable pub distinct : (ℕ → ℕ) → ℕ → Bool
distinct f used = every used (λ k. not (f k == 0) && not (knows k f (f k)))

abbrev pub or_else : Option ℕ → Option ℕ → Option ℕ
or_else (Some i) o = Some i
or_else None o = o

-- the first of the used places that bears the number n
unfoldable pub place_of : ℕ → (ℕ → ℕ) → ℕ → Option ℕ
place_of zero f n = None
place_of (suc i) f n = or_else (place_of i f n) (cond (f i == n) (Some i) None)
