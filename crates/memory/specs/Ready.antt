-- Whether a call may begin on the memory that is brought.
use Rattle.std.specs.Prelude.{◌≡◌, Bool, not, ◌⊎◌, List, [], ◌∷◌, Ok, Err, Result}
use Rattle.memory.specs.declared.types.Extent.{Extent}
use Rattle.memory.specs.Held.{Held}
use Rattle.memory.specs.Order.{Sized, InOrder, sized, in_order}
use Rattle.refusal.specs.declared.fault.Fault.{Fault}
use Rattle.refusal.specs.declared.fault.Fault.TheVariants.{Sizes, Order}

-- the tests of the memory: first its sizes, then its order
abbrev pub memory_faults : Extent → Held → List (Bool × Fault)
memory_faults e m = (not (sized e m), Sizes) ∷ (not (in_order e m), Order) ∷ []

-- what the answer tells
abbrev pub Told : Extent → Held → Result Unit Fault → Type 0
Told e m (Ok u) = Sized e m × InOrder e m
Told e m (Err f) = ((f ≡ Sizes) × (Sized e m → ⊥)) ⊎ ((f ≡ Order) × Sized e m × (InOrder e m → ⊥))
