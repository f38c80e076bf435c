use Rattle.std.proofs.Common.{◌≡◌, ℕ, ◌/◌, List, ◌++◌, drop, take, length, [], append-nil, sym, refl, ap, ◌∙◌, subst, arith}
use Rattle.std.specs.Int.{to_be_bytes, w16, w128}
use Rattle.std.proofs.lemmas.List.{drop_all, drop_at, length-drop, length-set, take_at}
use Rattle.std.proofs.lemmas.Result.{err_from_is_err_and}
use borrow.Rule.Slice.PartMut.{put_mid}
use Rattle.notice.specs.Form.{checked, notice_of, packed}
use Rattle.notice.specs.Lawful.{faults}
use Rattle.notice.specs.Packing.{check_of, split, twelve, two}
use Rattle.notice.specs.Promises.{ReadBack, Guarded}
use Rattle.notice.proofs.Changed.{guarded}
use Rattle.notice.proofs.Undone.{fits, read_back}
use Rattle.notice.proofs.types.Fields.write.Goals as goal
use Rattle.refusal.proofs.Judging.{passed, judged_then, judged_fault}

-- the last bytes of a number, and the two of a check
octets : (n : ℕ) → take 12 (drop 4 (to_be_bytes w128 n)) ≡ split twelve n
octets n = let e : n / 1 ≡ n = omega arith in rw e

pair : (n : ℕ) → to_be_bytes w16 n ≡ split two n
pair n = let e : n / 1 ≡ n = omega arith in rw e

-- twelve bytes, and two after them that are overwritten
laid : (xs rest ys : List ℕ) → length xs ≡ 12 → length rest ≡ 2 → put_mid 12 2 (xs ++ rest) ys ≡ xs ++ ys
laid xs rest ys l m = rw (take_at xs rest 12 l, drop_at xs rest 12 l, drop_all 2 rest (omega arith), append-nil)

-- what two writes leave
formed : (n s : ℕ) (front rest ys : List ℕ) → front ≡ take 12 (drop 4 (to_be_bytes w128 n)) →
    s ≡ check_of (take 12 (front ++ rest)) → ys ≡ to_be_bytes w16 s → length rest ≡ 2 → put_mid 12 2 (front ++ rest) ys ≡ checked (split twelve n)
formed n s front rest ys e f g l =
    let front-is : front ≡ split twelve n = e ∙ octets n in
    let sum : s ≡ check_of (split twelve n) = f ∙ ap (λ x. check_of (take 12 (x ++ rest))) front-is in
    rw front-is (laid (split twelve n) rest ys refl l ∙ ap (λ zs. split twelve n ++ zs) (g ∙ ap (to_be_bytes w16) sum ∙ pair _))

pub returns-in_err-notice-clause-answer : goal.returns-in_err-notice-clause-answer
returns-in_err-notice-clause-answer c =
    let p = err_from_is_err_and c.from_residual.result c.from_residual.ensures.1 in
    let f = c.args.self.now in
    rw (p.1, p.2) (sym (judged_fault (faults 100 f) [] (notice_of f) tt _ (sym c.in_err-notice.ensures.answer)))

pub returns : goal.returns
returns c =
    let f = c.args.self.now in
    let granted = sym c.notice.ensures.answer ∙ c.in_ok-notice.was in
    let p = passed (notice_of f) _ (faults 100 f) granted in
    let e = formed (packed f) c.check-sum.result c.copy_from_slice.new.self _ c.copy_from_slice-2.new.self (cc) c.check-sum.ensures ((cc) ∙ c.to_be_bytes-2.ensures ∙ ap (to_be_bytes w16) (omega arith)) (simp (length-drop, length-set) (omega arith)) in
    record {
      answer = sym (judged_then (faults 100 f) [] (notice_of f) _ tt granted);
      bytes = e;
      back = subst (ReadBack f) (sym e) (read_back f (fits f p.0 c.in_ok-notice.ensures.lawful) p.0);
      guarded = subst Guarded (sym e) (guarded f);
    }
