-- A written notice with one byte changed has a wrong check.
use Rattle.std.proofs.Common.{◌≡◌, ℕ, zero, suc, ◌+◌, ◌-◌, ◌*◌, ◌/◌, ◌%◌, ◌^◌, ◌<◌, Bool, true, ◌&&◌, eqb, List, [], ◌∷◌, ◌++◌, length, get_or, take, drop, set, replicate, Err, sym, refl, ap, ◌∙◌, inl, inr, le_of_suc-le-suc, mul_assoc, add-mul, mul-add, mul_left_comm, one-add, arith}
use Rattle.std.specs.List.{AllByRecursion}
use Rattle.std.proofs.lemmas.Bool.{cases_lt, eqb-true}
use Rattle.std.proofs.lemmas.Bool.Decides.{Decides-below_and, nat_tests}
use Rattle.std.proofs.ByRecursion.{All-get_or, All-set}
use Rattle.std.proofs.lemmas.List.{length-append, length-set, take_at, drop_at, take_all, set-append_left, set-append_right, get_or_append_left, get_or-append_right, get_or-set_same}
use Rattle.refusal.specs.declared.fault.Fault.TheVariants.{Check}
use Rattle.notice.specs.Packing.{weighted, check_of, gathered, split, twelve, two, Byte}
use Rattle.notice.specs.declared.types.Fields.{Fields}
use Rattle.notice.specs.Form.{packed, written}
use Rattle.notice.specs.Promises.{Guarded}
use Rattle.notice.specs.Reading.{reading}
use Rattle.notice.proofs.Packed.{join_whole}
use Rattle.notice.proofs.Single.{spelled}

-- what one byte changes in the sum
weighted_set : (j : ℕ) (xs : List ℕ) (i b : ℕ) → i < length xs →
    weighted j (set xs i b) + (j + i) * get_or xs i 0 ≡ weighted j xs + (j + i) * b
weighted_set j [] i b h = omega arith
weighted_set j (x ∷ xs) zero b h = omega arith
weighted_set j (x ∷ xs) (suc i) b h = omega (arith, weighted_set (j + 1) xs i b (le_of_suc-le-suc h))

apart : (p s x b : ℕ) → x < 256 → b < 256 → 257 * p + x ≡ 257 * s + b → x ≡ b
apart p s x b h k e = omega arith

-- a weight m that u turns into 1, modulo 257, hides no difference of two bytes
module _ (m u t : ℕ) (inverse : u * m ≡ 257 * t + 1) where
  scaled : (v x : ℕ) → u * (v + m * x) ≡ 257 * (u * (v / 257) + t * x) + (x + u * (v % 257))
  scaled v x =
      let e : u * v ≡ u * (257 * (v / 257)) + u * (v % 257) = ap (λ n. u * n) (omega arith) ∙ mul-add u _ _ in
      let f : u * (m * x) ≡ 257 * t * x + 1 * x = sym (mul_assoc u m x) ∙ ap (λ n. n * x) inverse ∙ add-mul _ _ x in
      omega (arith, e, f, mul-add u v (m * x), mul_left_comm u 257 (v / 257), mul_assoc 257 t x)

  cancel : (v w x b : ℕ) → x < 256 → b < 256 → v + m * x ≡ w + m * b → v % 257 ≡ w % 257 → x ≡ b
  cancel v w x b h k e f =
      let g = sym (scaled v x) ∙ ap (λ n. u * n) e ∙ scaled w b in
      apart (u * (v / 257) + t * x) (u * (w / 257) + t * b) x b h k (omega (arith, g, ap (λ n. u * n) f))

-- each weight m up to n has m ^ 255 for its inverse, as 257 is prime: one computed test
inverts : ℕ → Bool
inverts m = eqb (m ^ 255 * m % 257) 1

abbrev all_invert : ℕ → Bool
all_invert zero = true
all_invert (suc n) = inverts (suc n) && all_invert n

invert : (i : ℕ) → i < 12 → (1 + i) ^ 255 * (1 + i) % 257 ≡ 1
unfolding inverts
invert i h =
    rw one-add (eqb-true _ 1 ((Decides-below_and (λ k. inverts (suc k)) (λ k. inverts (suc k) ≡ true) all_invert (λ k. (λ e. e, λ e. e)) refl (λ _. refl) 12).0 refl i h))

told : (i v w x b : ℕ) → i < 12 → x < 256 → b < 256 → v + (1 + i) * x ≡ w + (1 + i) * b → v % 257 ≡ w % 257 → x ≡ b
told i v w x b l =
    let m = 1 + i in
    cancel m (m ^ 255) (m ^ 255 * m / 257) (omega (arith, invert i l)) v w x b

-- fourteen bytes that are not their check are refused
differs : (q : ℕ) (bs : List ℕ) → length bs ≡ 14 → (check_of (take 12 bs) ≡ gathered 0 (take 2 (drop 12 bs)) → ⊥) → Err Check ≡ reading q bs
differs q bs long ne = grind (arith, nat_tests)

module _ (q : ℕ) (xs ys : List ℕ) (long : length xs ≡ 12) (short : length ys ≡ 2) where
  -- bytes that are not their check are refused
  refused : (check_of xs ≡ gathered 0 ys → ⊥) → reading q (xs ++ ys) ≡ Err Check
  refused ne =
      let l : length (xs ++ ys) ≡ 14 = simp length-append (omega arith) in
      let front : take 12 (xs ++ ys) ≡ xs = take_at xs ys 12 long in
      let back : take 2 (drop 12 (xs ++ ys)) ≡ ys = ap (take 2) (drop_at xs ys 12 long) ∙ take_all 2 ys (omega arith) in
      sym (differs q (xs ++ ys) l (λ e. ne (sym (ap check_of front) ∙ e ∙ ap (gathered 0) back)))

pub changed_in : (q : ℕ) (xs ys : List ℕ) (i b : ℕ) → length xs ≡ 12 → length ys ≡ 2 → AllByRecursion Byte xs → AllByRecursion Byte ys → check_of xs ≡ gathered 0 ys →
    i < 14 → Byte b → (get_or (xs ++ ys) i 0 ≡ b → ⊥) → reading q (set (xs ++ ys) i b) ≡ Err Check
changed_in q xs ys i b long short hx hy check h k ne = elim (cases_lt i 12) [
  | inl l ↦
      let p : i < length xs = omega arith in
      ap (reading q) (set-append_left xs ys i b p) ∙
      refused q (set xs i b) ys (length-set xs i b ∙ long) short
      (λ e. ne (get_or_append_left xs ys 0 i p ∙
      told i (weighted 1 (set xs i b)) (weighted 1 xs) (get_or xs i 0) b l (All-get_or Byte xs i 0 p hx) k (weighted_set 1 xs i b p) (e ∙ sym check)))
  | inr g ↦
      let p : i - 12 < length ys = omega arith in
      ap (reading q) (set-append_right xs ys 12 i b long g) ∙
      refused q xs (set ys (i - 12) b) long (length-set ys (i - 12) b ∙ short)
      (λ e.
      let z : set ys (i - 12) b ≡ ys =
      sym (spelled 2 (set ys (i - 12) b) (length-set ys (i - 12) b ∙ short) (All-set Byte ys (i - 12) b k hy)) ∙
      ap (split (replicate 2 8)) (sym e ∙ check) ∙ spelled 2 ys short hy in
      ne (get_or-append_right xs ys 12 i 0 long g ∙ sym (ap (λ zs. get_or zs (i - 12) 0) z) ∙ get_or-set_same ys (i - 12) b 0 p))
]

octets : (k n : ℕ) → AllByRecursion Byte (split (replicate k 8) n)
octets zero n = tt
octets (suc k) n = (omega arith, octets k n)

pub guarded : (f : Fields) → Guarded (written f)
unfolding Guarded
guarded f q i b h k ne =
    let xs = split twelve (packed f) in
    changed_in q xs (split two (check_of xs)) i b refl refl (octets 12 (packed f)) (octets 2 (check_of xs))
    (sym (join_whole two (check_of xs) (omega arith))) h k ne
