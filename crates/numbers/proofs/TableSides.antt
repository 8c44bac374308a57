-- What a table of nodes says of one node: its tree from those of its sides, and where these stand. Assumes nothing.
use mathlib.Core.Path.{◌≡◌}
use mathlib.Core.List.{List}
use Prim.Native.Nat.{ℕ, ◌+◌, ◌<◌}
use Rattle.node.specs.Nodes.{node_at, node_tree, tree, Table}
use Rattle.node.specs.Sides.{Sides}
use Rattle.node.proofs.Nodes
use Rattle.node.proofs.Sides.{sides_more, lies_sides}

-- sides come after their node, inside the table
pub record Between (i n a : ℕ) : Type 0 where
  pub after : i < a
  pub below : a < n

module _ {ws : List ℕ} {n : ℕ} (t : Table ws n) (i : ℕ) (l : i < n) where
  pub tree_node : tree ws i ≡ node_tree (tree ws) i (node_at ws i)
  tree_node = Nodes.tree_node ws i (t.laid i l)

  pub sides_between : Sides (Between i n) (i + 1) (node_at ws i)
  sides_between =
      sides_more (λ j. (i < j) × (j < n)) (Between i n) (λ j h. record { after = h.0; below = h.1 }) (i + 1) (node_at ws i)
      (lies_sides (λ j. (i < j) × (j < n)) ws i (node_at ws i) (Nodes.table_sides ws n t i l))
