-- The sides of a node, wherever its left one stands: after it, as in trees that were read, or elsewhere, as in linked rows.
use Rattle.std.specs.Prelude.{ℕ, Option, None, Some}
use Rattle.symbol.specs.declared.Loc.{Loc}
use Rattle.definitions.specs.Tree.{Tree, constant, variable, one, two}
use Rattle.node.specs.declared.Node.{Node}
use Rattle.node.specs.declared.Node.TheVariants.{Const, Var, Unary, Binary}

-- P holds of the sides
unfoldable pub Sides : (ℕ → Type 0) → (left : ℕ) → Node → Type 0
Sides P left (Const k) = Unit {0}
Sides P left (Var p) = Unit {0}
Sides P left (Unary o) = P left
Sides P left (Binary o right) = P left × P right

-- the number of the right one, where there is one
abbrev pub right_of : Node → Option ℕ
right_of (Const k) = None
right_of (Var p) = None
right_of (Unary o) = None
right_of (Binary o right) = Some right

-- the node has none
pub data IsLeaf : Node → Type 0 where
  const : (k : ℕ) → IsLeaf (Const k)
  var : (p : Loc) → IsLeaf (Var p)

-- the node's tree, given those of its sides
abbrev pub tree_over : (ℕ → Tree) → (left : ℕ) → Node → Tree
tree_over tree left (Const k) = constant k
tree_over tree left (Var p) = variable p
tree_over tree left (Unary o) = one o (tree left)
tree_over tree left (Binary o right) = two o (tree left) (tree right)
