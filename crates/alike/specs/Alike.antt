-- Comparing the trees of linked rows.
use Rattle.std.specs.Prelude.{ℕ, Bool, ◌&&◌, ◌||◌}
use Rattle.operation.specs.declared.Two.{Two}
use Rattle.definitions.specs.Tree.{Tree}
use Rattle.definitions.specs.Same.{same, exchanges}
use Rattle.links.specs.declared.LinkedRows.{LinkedRows}
use Rattle.links.specs.LinkedFrom.{Has}

-- two linked rows
pub record Comparable (t : LinkedRows) (a b : ℕ) : Type 0 where
  pub first : Has t a
  pub second : Has t b

-- and their sides
pub record Pairs (t : LinkedRows) (l r x y : ℕ) : Type 0 where
  pub left : Has t l
  pub right : Has t r
  pub first : Has t x
  pub second : Has t y

-- left with left and right with right; or exchanged where the operator allows it
abbrev pub same_both : (l r x y : Tree) → Bool
same_both l r x y = same l x && same r y

abbrev pub same_sides : Two → (l r x y : Tree) → Bool
same_sides o l r x y = same_both l r x y || (exchanges o && same_both l r y x)
