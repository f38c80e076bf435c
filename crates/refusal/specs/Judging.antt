-- Tests in their order, each with the fault that it finds.
use Rattle.std.specs.Prelude.{Bool, cond, List, [], ◌∷◌, Ok, Err, Result}
use Rattle.refusal.specs.declared.fault.Fault.{Fault}

-- the fault of the first test that holds, or the value
abbrev pub judged : {A : Type 0} → List (Bool × Fault) → A → Result A Fault
judged [] a = Ok a
judged ((b, f) ∷ rest) a = cond b (Err f) (judged rest a)
