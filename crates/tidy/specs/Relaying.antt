-- A sheet's trees laid anew: fresh nodes in prefix order in place of those as read, and the numbers of their roots in the rows.
use Rattle.std.specs.Prelude.{◌≡◌, ◌⊎◌, ℕ, zero, suc, ◌+◌, ◌<◌, ◌≤◌, List, [], ◌∷◌, length, get_or}
use Rattle.std.proofs.lemmas.List.Edits.{sets}
use Rattle.limits.specs.Limits.{node_limit}
use Rattle.definitions.specs.Tree.{Tree}
use Rattle.tidying.specs.Units.{units_of}
use Rattle.tidying.specs.Tidy.{tidy}
use Rattle.node.specs.Nodes.{tree, layout_all, roots, weights}
use Rattle.statement.specs.declared.Row.{Row}
use Rattle.statement.specs.declared.Row.TheVariants.{Given}
use Rattle.statement.specs.Rows.{RoomFor, row_at, place_at, root_at}
use Rattle.links.specs.Links.{Inside, Links, linked}

-- the trees of the statements from row j on, given the tree of each root
unfoldable pub root_trees : (tree_of : ℕ → Tree) (rows : List Row) (j count : ℕ) → List Tree
root_trees tree_of rows j zero = []
root_trees tree_of rows j (suc count) = tree_of (root_at rows j) ∷ root_trees tree_of rows (j + 1) count

-- the trees of a sheet as read, tidied
abbrev pub tidy_trees : (values ws : List ℕ) (rows : List Row) (count : ℕ) → List Tree
tidy_trees values ws rows count = root_trees (λ i. tidy (units_of values) (tree ws i)) rows 0 count

-- linked rows for the roots of so many statements, whose trees a sheet has room for
pub record Linked (links : List ℕ) (rows : List Row) (count : ℕ) : Type 0 where
  pub rises : Links links 0
  pub long : RoomFor rows count
  pub given : (j : ℕ) → j < count → row_at rows j ≡ Given (place_at rows j) (root_at rows j)
  pub inside : (j : ℕ) → j < count → Inside links (root_at rows j)
  pub light : weights (root_trees (linked links) rows 0 count) ≤ node_limit

-- so many trees are laid from the first node on, m nodes in all, and their roots stand in the rows
pub record Relaid (ts : List Tree) (ws : List ℕ) (rows : List Row) (ws' : List ℕ) (rows' : List Row) (count m : ℕ) : Type 0 where
  pub nodes : m ≡ weights ts
  pub words : ws' ≡ sets ws 0 (layout_all 0 ts)
  pub long : length rows' ≡ length rows
  pub given : (j : ℕ) → j < count → row_at rows' j ≡ Given (place_at rows j) (get_or (roots 0 ts) j 0)
  pub others : (j : ℕ) → count ≤ j → row_at rows' j ≡ row_at rows j

-- no rule fitted: words and rows are as they were
pub record Neat (values ws : List ℕ) (rows : List Row) (ws' : List ℕ) (rows' : List Row) (count n m : ℕ) : Type 0 where
  pub nodes : m ≡ n
  pub words : ws' ≡ ws
  pub same : rows' ≡ rows
  pub trees : (j : ℕ) → j < count → tidy (units_of values) (tree ws (root_at rows j)) ≡ tree ws (root_at rows j)

-- the sheet of n nodes is tidied, with m nodes after
abbrev pub SheetTidied : (values ws : List ℕ) (rows : List Row) (ws' : List ℕ) (rows' : List Row) (count n m : ℕ) → Type 0
SheetTidied values ws rows ws' rows' count n m =
    Relaid (tidy_trees values ws rows count) ws rows ws' rows' count m ⊎ Neat values ws rows ws' rows' count n m
