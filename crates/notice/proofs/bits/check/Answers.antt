use Rattle.std.proofs.Common.{◌≡◌, ℕ, ◌+◌, ◌*◌, ◌%◌, ◌<◌, ◌≤◌, List, [], ◌∷◌, length, map, Iter, Bor, ap, ◌∙◌, add_assoc, arith, rules}
use Rattle.std.proofs.ByRecursion.{All-from_get_or}
use Rattle.std.proofs.lemmas.Iterator.{YieldsList, YieldsList-from_slice, YieldsList-from_map}
use Rattle.std.proofs.lemmas.Iterator.Consumers.{YieldsList-from_enumerate, YieldsList-at, sum_from_yields_List, fits_from_yields_list}
use Rattle.std.proofs.lemmas.Nat.{mul-le}
use Rattle.std.specs.List.{AllByRecursion, enumerate_from, fold, sum}
use Rattle.std.specs.declared.iter.Enumerate.{Enumerate}
use Rattle.std.specs.Iterator.Adapters.{enumerate_source, enumerate_count, enumerate_steps}
use Rattle.std.specs.Slice.Iter.{iter_rest}
use Rattle.std.proofs.iter.Yields.{fronts}
use Rattle.notice.specs.Packing.{Byte, weighted}
use Rattle.notice.proofs.bits.check.Goals as goal

-- each byte times its place
abbrev terms : ℕ → List ℕ → List ℕ
terms i xs = map (λ (p : ℕ × ℕ). (p.0 + 1) * p.1) (enumerate_from i xs)

summed : (a i : ℕ) (xs : List ℕ) → fold ◌+◌ a (terms i xs) ≡ a + weighted (i + 1) xs
summed a i [] = omega arith
summed a i (x ∷ xs) = summed (a + (i + 1) * x) (i + 1) xs ∙ add_assoc _ _ _

bounded : (i : ℕ) (xs : List ℕ) → i + length xs ≤ 13 → AllByRecursion Byte xs → weighted i xs ≤ 3060 * length xs
bounded i [] l h = omega arith
bounded i (x ∷ xs) l h = omega (arith, mul-le i x 12 255 (omega arith) (omega arith), bounded (i + 1) xs (omega arith) h.1)

-- what the bytes yield, each with its index
numbered : {it : Iter ℕ} {from to : Enumerate (Iter ℕ)} (bs : List ℕ) → iter_rest it ≡ bs → enumerate_source from ≡ it → enumerate_count from ≡ 0 → to ≡ from →
    YieldsList (enumerate_steps fronts) (λ (p : ℕ × Bor ℕ). (p.0, p.1.now)) to (enumerate_from 0 bs)
numbered bs rest source count same = YieldsList-at same (YieldsList-from_enumerate (YieldsList-at source (YieldsList-from_slice bs rest)) count)

pub sum-sum-requires-clause-fits : goal.sum-sum-requires-clause-fits
sum-sum-requires-clause-fits c =
    let bs = c.args.bytes.now in
    let bytes = All-from_get_or Byte bs 0 (λ i _. (c.type_inv.bytes i).fits) in
    let small : sum (terms 0 bs) < 65536 = omega (arith, summed 0 0 bs, bounded 1 bs (omega arith) bytes) in
    let items = numbered bs c.iter.ensures.rest c.enumerate.ensures.source c.enumerate.ensures.count c.map.ensures.source in
    fits_from_yields_list c.map.result 65536 (YieldsList-from_map _ _ items c.map.ensures.closure (λ x r q k. search rules)) small

pub returns : goal.returns
returns c =
    let bs = c.args.bytes.now in
    let items = numbered bs c.iter.ensures.rest c.enumerate.ensures.source c.enumerate.ensures.count c.map.ensures.source in
    let e : c.sum-sum.result ≡ sum (terms 0 bs) =
    sum_from_yields_List c.map.result c.sum-sum.result c.sum-sum.ensures.ran
    (YieldsList-from_map _ _ items c.map.ensures.closure (λ x r q k. search rules)) in
    let all : c.sum-sum.result ≡ weighted 1 bs = omega (arith, summed 0 0 bs) in
    ap (λ n. n % 257) all
