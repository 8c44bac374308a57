-- Tidied trees as linked rows, one for each node as read: four words a row, the node's as in crate node but for the last, which is
-- the number of its left side. Sides come after their row, anywhere.
use Rattle.std.specs.Prelude.{◌≡◌, ℕ, zero, suc, ◌+◌, ◌*◌, ◌<◌, ◌≤◌, List, length}
use Rattle.std.proofs.lemmas.List.Edits.{sets}
use Rattle.limits.specs.Limits.{node_limit}
use Rattle.definitions.specs.Tree.{Tree, constant, weight}
use Rattle.node.specs.Sides.{Sides, tree_over}
use Rattle.node.specs.Nodes.{node_at, end_at, Packed, layout}

unfoldable pub linked_from : (turns : ℕ) (rows : List ℕ) → ℕ → Tree
linked_from zero rows i = constant 0
linked_from (suc k) rows i = tree_over (linked_from k rows) (end_at rows i) (node_at rows i)

-- the tree of row i: sides come after their row, and there are no more rows than a sheet may have nodes
unfoldable pub linked : (rows : List ℕ) → ℕ → Tree
linked rows i = linked_from node_limit rows i

-- row i is one of the rows
abbrev pub Inside : (rows : List ℕ) (i : ℕ) → Type 0
Inside rows i = 4 * i + 3 < length rows

-- the rows from lo on have sides after them, and words that tell their heads
pub record Links (rows : List ℕ) (lo : ℕ) : Type 0 where
  pub few : length rows ≤ 4 * node_limit
  pub rises : (i : ℕ) → lo ≤ i → Inside rows i → Sides (λ j. (i < j) × Inside rows j) (end_at rows i) (node_at rows i)
  pub packed : (i : ℕ) → lo ≤ i → Inside rows i → Packed rows i

-- row i is linked
pub record Row (rows : List ℕ) (i : ℕ) : Type 0 where
  pub links : Links rows i
  pub inside : Inside rows i

-- and its tree has room from node m on
pub record Fits (rows : List ℕ) (i m : ℕ) : Type 0 where
  pub row : Row rows i
  pub few : m + weight (linked rows i) ≤ node_limit

-- the tree of row i stands from node m on, and ends at r
pub record Lays (rows : List ℕ) (i m : ℕ) (ws ws' : List ℕ) (r : ℕ) : Type 0 where
  pub ends : r ≡ m + weight (linked rows i)
  pub words : ws' ≡ sets ws (4 * m) (layout m (linked rows i))
