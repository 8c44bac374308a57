-- A row that is to come before the linked ones.
use Rattle.std.specs.Prelude.{◌≡◌, Bool, false, List, ℕ}
use Rattle.definitions.specs.Tree.{Tree, constant, variable, one}
use Rattle.tidying.specs.Units.{units_of}
use Rattle.tidying.specs.Tidy.{Units, joined}
use Rattle.node.specs.declared.Node.{Node}
use Rattle.node.specs.declared.Node.TheVariants.{Const, Var, Unary, Binary}
use Rattle.node.specs.Sides.{Sides, tree_over}
use Rattle.node.specs.Sized.{SizedNode}
use Rattle.links.specs.declared.LinkedRows.{LinkedRows}
use Rattle.links.specs.Links.{linked}
use Rattle.links.specs.LinkedFrom.{Has}
use Rattle.linking.specs.declared.NewRow.{NewRow}

-- its sides are linked rows, and its tree over theirs is u
pub record Makes (t : LinkedRows) (row : NewRow) (u : Tree) : Type 0 where
  pub sized : SizedNode row.node
  pub sides : Sides (Has t) row.left row.node
  pub tree : tree_over (linked t.rows.now) row.left row.node ≡ u

-- the tree of a node over tidied sides, tidied
abbrev pub joined_node : Units → (ℕ → Tree) → (left : ℕ) → Node → Tree
joined_node u tree left (Const k) = constant k
joined_node u tree left (Var p) = variable p
joined_node u tree left (Unary o) = one o (tree left)
joined_node u tree left (Binary o right) = joined u o (tree left) (tree right)

-- the row of node x, with that tree; unless the flag is set it has the node as it stands
pub record Joins (t : LinkedRows) (values : List ℕ) (x : Node) (left : ℕ) (made : NewRow × Bool) : Type 0 where
  pub makes : Makes t made.0 (joined_node (units_of values) (linked t.rows.now) left x)
  pub kept : made.1 ≡ false → (made.0.node ≡ x) × (made.0.left ≡ left)
