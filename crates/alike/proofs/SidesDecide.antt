-- Sides decide: left with left and right with right, or exchanged where the operator allows it. Assumes nothing.
use mathlib.Core.Path.{◌≡◌, refl}
use mathlib.Core.Bool.{Bool, true, false}
use Rattle.operation.specs.declared.Two.{Two}
use Rattle.definitions.specs.Tree.{Tree}
use Rattle.definitions.specs.Same.{same, exchanges}
use Rattle.alike.specs.Alike.{same_both, same_sides}

module _ (l r x y : Tree) where
  -- p is the answer of the left sides, z that of the right ones
  pub right_decides : {p z : Bool} → p ≡ true → p ≡ same l x → z ≡ same r y → z ≡ same_both l r x y
  right_decides e h k = rw (← h, e) k

  pub left_differs : {p : Bool} → p ≡ false → p ≡ same l x → false ≡ same_both l r x y
  left_differs e h = rw (← h, e) refl

  -- p is the answer straight, q whether the sides may be exchanged, z the answer exchanged
  module _ (o : Two) where
    pub straight_decides : {p : Bool} → p ≡ true → p ≡ same_both l r x y → true ≡ same_sides o l r x y
    straight_decides e h = rw (← h, e) refl

    pub exchange_decides : {p q z : Bool} → p ≡ false → p ≡ same_both l r x y → q ≡ true → q ≡ exchanges o
        → z ≡ same_both l r y x → z ≡ same_sides o l r x y
    exchange_decides e h d g k = rw (← h, e, ← g, d) k

    pub sides_differ : {p q : Bool} → p ≡ false → p ≡ same_both l r x y → q ≡ false → q ≡ exchanges o
        → false ≡ same_sides o l r x y
    sides_differ e h d g = rw (← h, e, ← g, d) refl
