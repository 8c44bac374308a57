-- Rows added one by one, from the last node to the first.
use Rattle.std.specs.Prelude.{◌≡◌, Bool, false, ℕ, ◌+◌, ◌*◌, ◌<◌, ◌≤◌, List, length}
use Rattle.definitions.specs.Tree.{Tree}
use Rattle.tidying.specs.Units.{units_of}
use Rattle.tidying.specs.Tidy.{tidy}
use Rattle.node.specs.Nodes.{tree, Table}
use Rattle.links.specs.Links.{Inside, Links, linked}

-- row i is the next
pub record Free (rows : List ℕ) (i : ℕ) : Type 0 where
  pub links : Links rows (i + 1)
  pub inside : Inside rows i

-- row i is added, with the tree t
pub record Added (rows rows' : List ℕ) (i : ℕ) (t : Tree) : Type 0 where
  pub whole : length rows' ≡ length rows
  pub links : Links rows' i
  pub tree : linked rows' i ≡ t
  pub others : (j : ℕ) → i < j → Inside rows j → linked rows' j ≡ linked rows j

-- as many rows as nodes, of which those from lo on have the tidied trees of their nodes
pub record Tidied (values ws rows : List ℕ) (lo : ℕ) : Type 0 where
  pub nodes : ℕ
  pub table : Table ws nodes
  pub whole : length rows ≡ 4 * nodes
  pub links : Links rows lo
  pub trees : (j : ℕ) → lo ≤ j → Inside rows j → linked rows j ≡ tidy (units_of values) (tree ws j)

-- the rows from lo on have the trees of their nodes as read
pub record Kept (ws rows : List ℕ) (lo : ℕ) : Type 0 where
  pub trees : (j : ℕ) → lo ≤ j → Inside rows j → linked rows j ≡ tree ws j

-- row i is added for node i, with its node's tree as read unless changed is set
pub record Entered (values ws rows rows' : List ℕ) (i : ℕ) (changed : Bool) : Type 0 where
  pub whole : length rows' ≡ length rows
  pub tidied : Tidied values ws rows' i
  pub others : (j : ℕ) → i < j → Inside rows j → linked rows' j ≡ linked rows j
  pub kept : changed ≡ false → Kept ws rows (i + 1) → Kept ws rows' i
