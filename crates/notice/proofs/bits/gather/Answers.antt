use Rattle.std.proofs.Common.{◌≡◌, ℕ, ◌+◌, ◌*◌, ◌%◌, ◌^◌, ◌<◌, ◌≤◌, List, [], ◌∷◌, length, bit_or, refl, ◌∙◌, arith, pow_mono, rules}
use Rattle.std.proofs.ByRecursion.{All-from_get_or}
use Rattle.std.proofs.iter.runs.Made.{chains}
use Rattle.std.proofs.lemmas.Nat.{or_shifted, pow-add, shl_whole}
use Rattle.std.specs.List.{AllByRecursion, fold}
use Rattle.notice.specs.Packing.{Byte, eights, join}
use Rattle.notice.proofs.bits.gather.Goals as goal

-- bytes that go on from a number of k bytes
gone_on : (k n : ℕ) (bs : List ℕ) → n < 2 ^ (8 * k) → k + length bs ≤ 15 → AllByRecursion Byte bs →
    fold (λ a b. bit_or (a * 2 ^ 8 % 2 ^ 128) b) n bs ≡ join n (eights bs) bs
gone_on k n [] h l all = refl
gone_on k n (b ∷ bs) h l all =
    let room : 8 * k ≤ 112 = omega arith in
    let small : n < 2 ^ 112 = omega (arith, pow_mono room) in
    let e : bit_or (n * 2 ^ 8 % 2 ^ 128) b ≡ n * 2 ^ 8 + b = rw (shl_whole n 112 8 128 small (omega arith)) (or_shifted n 8 b all.0) in
    let eight : 8 * (k + 1) ≡ 8 * k + 8 = omega arith in
    let more : n * 2 ^ 8 + b < 2 ^ (8 * (k + 1)) = rw (eight, pow-add) (omega arith) in
    rw e (gone_on (k + 1) (n * 2 ^ 8 + b) bs more (omega arith) all.1)

pub returns : goal.returns
returns c =
    let bs = c.args.bytes.now in
    let e : c.fold.result ≡ fold (λ a b. bit_or (a * 2 ^ 8 % 2 ^ 128) b) 0 bs = search (rules, chains) in
    e ∙ gone_on 0 0 bs (omega arith) (omega arith) (All-from_get_or Byte bs 0 (λ i l. (c.type_inv.bytes i).fits))
