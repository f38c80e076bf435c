-- One number more in a set, and in what is known of a register.
use Rattle.std.proofs.Common.{◌≡◌, ℕ, ◌+◌, ◌<◌, Bool, true, false, ◌||◌, ◌&&◌, eqb, ◌≢◌, ◌⊎◌, List, get_or, replicate, sym, ap, ◌∙◌, ⊎_elim, refl, add-one, arith, below_more}
use Rattle.std.proofs.lemmas.List.{get_or_past, get_or-replicate, length-replicate}
use Rattle.std.proofs.lemmas.Bool.{cases_lt, both_ways, not-true, not_from_false, and_right}
use Rattle.memory.specs.declared.number_set.NumberSet.{NumberSet}
use Rattle.memory.specs.declared.types.Point.{Point}
use Rattle.memory.specs.Held.{no_point}
use Rattle.memory.specs.NumberSets.{has, Holds}
use Rattle.memory.specs.Order.{is_access, knows_access}
use Rattle.register.proofs.Meaning.{decides_unborne}
use Rattle.register.specs.Numbers.{knows, Distinct}

pub none_in : (n k : ℕ) → get_or (replicate n false) k false ≡ false
none_in n k = ⊎_elim (λ l. get_or-replicate n k false false l) (λ l. get_or_past (replicate n false) k false (simp length-replicate l)) (cases_lt k n)

-- the set s' has what s has, and n
abbrev pub Adds : NumberSet → ℕ → NumberSet → Type 0
Adds s n s' = (k : ℕ) → has s' k ≡ (eqb n k || has s k)

pub knows_none : (s : NumberSet) (f : ℕ → ℕ) → Holds s (λ n. false) → Holds s (knows 0 f)
unfolding knows
knows_none s f none n = none n

pub distinct_none : (f : ℕ → ℕ) → Distinct f 0
unfolding Distinct
distinct_none f k l = absurd (omega arith)

-- the record in place i, whose number is n
module _ (s : NumberSet) (f : ℕ → ℕ) (i n : ℕ) (is : f i ≡ n) (inv : Holds s (knows i f)) where
  pub taken_in : (s' : NumberSet) → Adds s n s' → n ≢ 0 → has s n ≡ false → Distinct f i → Distinct f (i + 1) × Holds s' (knows (i + 1) f)
  unfolding Distinct knows
  taken_in s' adds ne no' old = (
    below_more _ i old (rw is (ne, (decides_unborne i f n).0 (not_from_false (knows i f n) (sym (inv n) ∙ no')))),
    λ k. rw add-one (rw is (adds k ∙ ap (λ b. eqb n k || b) (inv k))),
  )

  pub refused : (n ≡ 0) ⊎ (has s n ≡ true) → (used : ℕ) → i < used → Distinct f used → ⊥
  unfolding Distinct
  refused why used l all =
      let a = rw is at (all i l) in
      ⊎_elim a.0 (λ yes'. both_ways (knows i f n) (not-true (knows i f n) ((decides_unborne i f n).1 a.1)) (sym (inv n) ∙ yes')) why

pub access_none : (s : NumberSet) (ps : List Point) → Holds s (λ n. false) → Holds s (knows_access 0 ps)
unfolding knows_access
access_none s ps none n = none n

and_true : (a b : Bool) → b ≡ true → (a && b) ≡ a
and_true true b e = e
and_true false b e = refl

-- the point in place i
module _ (s s' : NumberSet) (ps : List Point) (i : ℕ) (inv : Holds s (knows_access i ps)) where
  abbrev here : Point
  here = get_or ps i no_point

  pub access_more : is_access here ≡ true → Adds s here.number s' → Holds s' (knows_access (i + 1) ps)
  unfolding knows_access
  access_more yes' adds k =
      rw add-one
      (adds k ∙ ap (λ b. b || has s k) (sym (and_true (eqb here.number k) (is_access here) yes')) ∙
      ap (λ b. (eqb here.number k && is_access here) || b) (inv k))

  pub access_same : is_access here ≡ false → s' ≡ s → Holds s' (knows_access (i + 1) ps)
  unfolding knows_access
  access_same no' same k =
      rw add-one (rw same (inv k ∙ ap (λ b. b || knows_access i ps k) (sym (and_right (eqb here.number k) (is_access here) no'))))
