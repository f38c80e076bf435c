-- Tests in their order: what a grant and a refusal tell of each.
use Rattle.std.proofs.Common.{◌≡◌, Bool, true, false, List, [], ◌∷◌, ◌++◌, is_ok, Ok, Err, Decides, refl, ap}
use Rattle.refusal.specs.declared.fault.Fault.{Fault}
use Rattle.refusal.specs.Judging.{judged}
use Rattle.std.specs.List.{AllByRecursion}

-- no test holds
abbrev pub Passed : List (Bool × Fault) → Type 0
Passed ts = AllByRecursion (λ t. t.0 ≡ false) ts

module _ {A : Type 0} (a b : A) where
  pub passed : (ts : List (Bool × Fault)) → judged ts a ≡ Ok b → Passed ts
  passed [] e = tt
  passed ((true, f) ∷ ts) e = cc
  passed ((false, f) ∷ ts) e = (refl, passed ts e)

  pub passed_value : (ts : List (Bool × Fault)) → judged ts a ≡ Ok b → a ≡ b
  passed_value [] e = cc
  passed_value ((true, f) ∷ ts) e = cc
  passed_value ((false, f) ∷ ts) e = passed_value ts e

pub passed_ok : {A : Type 0} (a : A) (ts : List (Bool × Fault)) → is_ok (judged ts a) ≡ true → Passed ts
passed_ok a [] e = tt
passed_ok a ((true, f) ∷ ts) e = cc
passed_ok a ((false, f) ∷ ts) e = (refl, passed_ok a ts e)

-- where no test holds, the value is granted; with more tests after them, these decide
pub judged_all : {A : Type 0} (ts : List (Bool × Fault)) (a : A) → Passed ts → judged ts a ≡ Ok a
judged_all [] a p = refl
judged_all ((true, f) ∷ ts) a p = cc p.0
judged_all ((false, f) ∷ ts) a p = judged_all ts a p.1

pub passed_both : (ts us : List (Bool × Fault)) → Passed ts → Passed us → Passed (ts ++ us)
passed_both [] us p q = q
passed_both ((b, f) ∷ ts) us p q = (p.0, passed_both ts us p.1 q)

pub judged_passed : {A : Type 0} (ts us : List (Bool × Fault)) (a : A) → Passed ts → judged (ts ++ us) a ≡ judged us a
judged_passed [] us a p = refl
judged_passed ((true, f) ∷ ts) us a p = cc p.0
judged_passed ((false, f) ∷ ts) us a p = judged_passed ts us a p.1

-- a fault stays where more tests follow, whatever is granted
pub judged_fault : {A B : Type 0} (ts us : List (Bool × Fault)) (a : A) (b : B) (f : Fault) → judged ts a ≡ Err f → judged (ts ++ us) b ≡ Err f
judged_fault [] us a b f e = cc
judged_fault ((true, g) ∷ ts) us a b f e = cc
judged_fault ((false, g) ∷ ts) us a b f e = judged_fault ts us a b f e

-- the first tests granted something: what follows decides
pub judged_then : {A B : Type 0} (ts us : List (Bool × Fault)) (a v : A) (b : B) → judged ts a ≡ Ok v → judged (ts ++ us) b ≡ judged us b
judged_then ts us a v b e = judged_passed ts us b (passed a v ts e)

-- a grant tells that no test held, and the other way round
pub decides_passed : {A : Type 0} (ts : List (Bool × Fault)) (a : A) → Decides (is_ok (judged ts a)) (Passed ts)
decides_passed ts a = (passed_ok a ts, λ p. ap is_ok (judged_all ts a p))

pub passed_parts : (ts us : List (Bool × Fault)) → Passed (ts ++ us) → Passed ts × Passed us
passed_parts [] us p = (tt, p)
passed_parts ((b, f) ∷ ts) us p = ((p.0, (passed_parts ts us p.1).0), (passed_parts ts us p.1).1)
