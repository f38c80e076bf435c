-- One notice more in the log.
use Rattle.std.proofs.Common.{◌≡◌, ℕ, zero, suc, ◌+◌, ◌-◌, ◌<◌, min, Bool, true, false, ◌⊎◌, List, [], ◌∷◌, ◌++◌, length, take, drop, Some, sym, refl, ap, ◌∙◌, append_assoc, append-nil, arith}
use mathlib.Core.Logic.{inl}
use Rattle.day.specs.Noticing.{noticing}
use Rattle.memory.specs.declared.types.Extent.{Extent}
use Rattle.memory.specs.Held.{Held}
use Rattle.noticelog.specs.declared.line.Line.{Line}
use Rattle.noticelog.specs.Log.{line_of, log_from, notices_in}
use Rattle.std.proofs.lemmas.List.{take_at, drop_at, take_min, drop_min}
use Rattle.std.specs.declared.ops.RangeInclusive.{RangeInclusive}
use Rattle.std.specs.Range.{range_inclusive_end, range_inclusive_exhausted, range_inclusive_left, range_inclusive_len, range_inclusive_start, range_inclusive_steps}

-- how far numbers are apart, and the number after another
abbrev pub gap : ℕ → ℕ → ℕ
gap x y = y - x

abbrev pub follows : ℕ → ℕ → Type 0
follows x y = y ≡ x + 1

-- the log of the bytes that are left, upon the places that are left
abbrev pub still_to_log : RangeInclusive ℕ → List ℕ → Extent → Held → List Line
still_to_log places rest e m = log_from (range_inclusive_start places) e m (notices_in (range_inclusive_left gap places) rest)

-- no notice is read where none may be, or no byte is left
no_notice : (most : ℕ) (rest : List ℕ) → (most ≡ 0) ⊎ (length rest ≡ 0) → notices_in most rest ≡ []
no_notice zero rest none = refl
no_notice (suc most) [] none = refl
no_notice (suc most) (b ∷ bs) none = absurd (omega arith)

pub logged_none : (place : ℕ) (e : Extent) (m : Held) (most : ℕ) (rest : List ℕ) → (most ≡ 0) ⊎ (length rest ≡ 0) → log_from place e m (notices_in most rest) ≡ []
unfolding log_from
logged_none place e m most rest none = ap (log_from place e m) (no_notice most rest none)

pub logged_more : (place : ℕ) (e : Extent) (m : Held) (most most' : ℕ) (rest : List ℕ) → most' + 1 ≡ most → 0 < length rest →
    log_from place e m (notices_in most rest) ≡
    line_of place (noticing e m (take 14 rest)) ∷ log_from (place + 1) (noticing e m (take 14 rest)).extent (noticing e m (take 14 rest)).memory (notices_in most' (drop 14 rest))
unfolding log_from
logged_more place e m zero most' rest is h = absurd (omega arith)
logged_more place e m (suc most) most' [] is h = absurd (omega arith)
logged_more place e m (suc most) most' (b ∷ bs) is h =
    let o = noticing e m (take 14 (b ∷ bs)) in
    let same : most ≡ most' = omega arith in
    ap (λ n. line_of place o ∷ log_from (place + 1) o.extent o.memory (notices_in n (drop 14 (b ∷ bs)))) same

-- the place that comes next counts only if one is left
next_place : (places : RangeInclusive ℕ) (b : Bool) (place : ℕ) (rest : List ℕ) (e : Extent) (m : Held) →
    range_inclusive_exhausted places ≡ b → (b ≡ false → range_inclusive_start places ≡ place) →
    log_from place e m (notices_in (range_inclusive_left gap places) rest) ≡ still_to_log places rest e m
next_place places true place rest e m is start =
    let none : range_inclusive_left gap places ≡ 0 = ap (range_inclusive_len gap (range_inclusive_start places) (range_inclusive_end places)) is in
    logged_none place e m _ rest (inl none) ∙ sym (logged_none (range_inclusive_start places) e m _ rest (inl none))
next_place places false place rest e m is start = ap (λ n. log_from n e m (notices_in (range_inclusive_left gap places) rest)) (sym (start refl))

-- before the first: no place is used and no byte is read
pub all_to_log : (places : RangeInclusive ℕ) (rest bytes : List ℕ) (e : Extent) (m : Held) →
    range_inclusive_start places ≡ 1 → range_inclusive_end places ≡ 64 → range_inclusive_exhausted places ≡ false → rest ≡ bytes →
    still_to_log places rest e m ≡ log_from 1 e m (notices_in 64 bytes)
all_to_log places rest bytes e m first last some whole = λ j. log_from (first j) e m (notices_in (range_inclusive_len gap (first j) (last j) (some j)) (whole j))

module _ (lines all : List Line) (places : RangeInclusive ℕ) (rest : List ℕ) (e : Extent) (m : Held) (inv : lines ++ still_to_log places rest e m ≡ all) where
  -- a turn: the log so far and what the rest will add are the whole log again
  pub turn : (lines' : List Line) (places' : RangeInclusive ℕ) (rest' notice : List ℕ) (e' : Extent) (m' : Held) (place : ℕ) (line : Line) →
      range_inclusive_steps gap follows places (Some place) places' → (rest ≡ notice ++ rest') × (length notice ≡ min 14 (length rest)) × (0 < length rest) →
      line ≡ line_of place (noticing e m notice) → e' ≡ (noticing e m notice).extent → m' ≡ (noticing e m notice).memory → lines' ≡ lines ++ (line ∷ []) →
      lines' ++ still_to_log places' rest' e' m' ≡ all
  turn lines' places' rest' notice e' m' place line step cut is-line is-e is_m is-lines =
      let front : take 14 rest ≡ notice = sym (take_min 14 rest) ∙ ap (take (min 14 (length rest))) cut.0 ∙ take_at notice rest' _ cut.1 in
      let back : drop 14 rest ≡ rest' = sym (drop_min 14 rest) ∙ ap (drop (min 14 (length rest))) cut.0 ∙ drop_at notice rest' _ cut.1 in
      let here : line_of place (noticing e m (take 14 rest)) ≡ line = ap (λ n. line_of place (noticing e m n)) front ∙ sym is-line in
      let day : (noticing e m (take 14 rest)).extent ≡ e' = ap (λ n. (noticing e m n).extent) front ∙ sym is-e in
      let memory : (noticing e m (take 14 rest)).memory ≡ m' = ap (λ n. (noticing e m n).memory) front ∙ sym is_m in
      let left' = range_inclusive_left gap places' in
      let more : still_to_log places rest e m ≡ line ∷ still_to_log places' rest' e' m' =
      ap (λ p. log_from p e m (notices_in (range_inclusive_left gap places) rest)) (sym step.1.0) ∙ logged_more place e m _ left' rest step.1.1 cut.2 ∙
      (λ j. here j ∷ log_from (place + 1) (day j) (memory j) (notices_in left' (back j))) ∙
      ap (λ ls. line ∷ ls) (next_place places' _ (place + 1) rest' e' m' refl (λ some. step.1.2 some ∙ ap (λ p. p + 1) (sym step.1.0))) in
      ap (λ ls. ls ++ still_to_log places' rest' e' m') is-lines ∙ append_assoc lines (line ∷ []) (still_to_log places' rest' e' m') ∙ ap (λ ls. lines ++ ls) (sym more) ∙ inv

  -- the end: no place is left, or no byte
  pub ended : (range_inclusive_left gap places ≡ 0) ⊎ (length rest ≡ 0) → lines ≡ all
  ended none = sym (append-nil lines) ∙ ap (λ ls. lines ++ ls) (sym (logged_none (range_inclusive_start places) e m _ rest none)) ∙ inv
