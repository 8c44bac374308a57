-- What each phase hands to the next: reader to sharing, its first pass to its second, sharing to trimming, trimming to emission.
use Rattle.std.specs.Prelude.{◌≡◌, ◌≢◌, ℕ, ◌+◌, ◌*◌, ◌<◌, ◌≤◌, Bool, List, [], length, get_or}
use Rattle.std.proofs.Math.Option.{some}
use Rattle.std.proofs.Math.ListN.{get_elem?}
use Rattle.limits.specs.Limits.{statement_limit, node_limit, row_limit, temporary_limit}
use Rattle.symbol.specs.declared.Loc.{Loc}
use Rattle.definitions.specs.Tree.{Tree}
use Rattle.definitions.specs.Trim.{trim_all}
use Rattle.node.specs.Marks.{mark_of}
use Rattle.node.specs.Nodes.{end_at, tree, Table}
use Rattle.node.specs.Views.{Marked, Fresh, zeros}
use Rattle.statement.specs.declared.Row.{Row}
use Rattle.statement.specs.declared.Row.TheVariants.{Given}
use Rattle.statement.specs.declared.State.{State}
use Rattle.statement.specs.Rows.{RoomFor, row_at, place_at, root_at, rows_from, statements_of}
use Rattle.statement.specs.Rowing.{All, OnRoot, OnGiven, Unmade, NumberedBelow}

-- every tree that begins before node i ends there or before it
abbrev pub Closed : (ws : List ℕ) (i : ℕ) → Type 0
Closed ws i = (z : ℕ) → z < i → end_at ws z ≤ i

-- a sheet that was read: n nodes, and a row for each statement, in the order of their roots
pub record SheetHeld (ws : List ℕ) (rows : List Row) (n count : ℕ) : Type 0 where
  pub table : Table ws n
  pub few : count ≤ statement_limit
  pub long : RoomFor rows count
  pub given : (j : ℕ) → j < count → row_at rows j ≡ Given (place_at rows j) (root_at rows j)
  pub roots : (j : ℕ) → j < count → root_at rows j < n
  pub order : (i j : ℕ) → i < j → j < count → root_at rows i < root_at rows j
  pub closed : (j : ℕ) → j < count → Closed ws (root_at rows j)

-- no node has a mark
pub record Unmarked (ms : List ℕ) : Type 0 where
  pub blank : (i : ℕ) → get_or ms i 0 ≡ 0
  pub wide : length ms ≡ node_limit

-- its shared trees: every node's mark, and the node of each temporary's text; each text has two nodes at least
pub record SheetShared (ws ms tx : List ℕ) (n : ℕ) (texts : List Tree) : Type 0 where
  pub table : Table ws n
  pub wide : length ms ≡ node_limit
  pub marks : (i : ℕ) → i < n → get_or ms i 0 ≡ mark_of texts (tree ws i)
  pub past : (i : ℕ) → n ≤ i → get_or ms i 0 ≡ 0
  pub few : length texts ≤ node_limit
  pub nodes : (t : ℕ) → t < length texts → get_or tx t 0 < n
  pub trees : (t : ℕ) → t < length texts → get_elem? texts t ≡ some (tree ws (get_or tx t 0))
  pub twice : zeros ms n + 2 * length texts ≤ n

-- a root within another node's tree has a mark
abbrev pub Owned : (ws ms : List ℕ) → ℕ → Type 0
Owned ws ms i = (z : ℕ) → z < i → i < end_at ws z → Marked ms i

-- the rows that sharing put out, and the temporaries that it gave out: the roots are different nodes
pub record SheetEliminated (ws ms : List ℕ) (rows : List Row) (n : ℕ) (s : State) : Type 0 where
  pub table : Table ws n
  pub wide : length ms ≡ node_limit
  pub long : RoomFor rows s.count
  pub low : s.next ≤ node_limit
  pub small : (j : ℕ) → get_or ms j 0 ≤ s.next
  pub unmade : (j : ℕ) → j < s.count → Unmade (row_at rows j)
  pub named : (j : ℕ) → j < s.count → NumberedBelow s.next (row_at rows j)
  pub placed : (j : ℕ) → j < s.count → OnRoot (λ i. i < n) (row_at rows j)
  pub owned : (j : ℕ) → j < s.count → OnRoot (Owned ws ms) (row_at rows j)
  pub unmarked : (j : ℕ) → j < s.count → OnGiven (λ i. get_or ms i 0 ≡ 0) (row_at rows j)
  pub distinct : (j k : ℕ) → j < k → k < s.count → OnRoot (λ x. OnRoot (λ y. x ≢ y) (row_at rows k)) (row_at rows j)

-- the rows that trimming put out, and the next temporary: the definition's statements, whatever places the temporaries have
pub record SheetTrimmed (sharing : Bool) (scratch : ℕ) (ws ms ms' : List ℕ) (rows rows' : List Row) (n : ℕ) (s s' : State)
    : Type 0 where
  pub trimmed : (temporary : ℕ → Loc) → Fresh temporary ws n
      → trim_all sharing scratch temporary s.next [] (statements_of temporary ws ms (rows_from rows 0 s.count))
      ≡ record { next = s'.next; statements = statements_of temporary ws ms' (rows_from rows' 0 s'.count) }
  pub wide : length ms' ≡ node_limit
  pub long : RoomFor rows' s'.count
  pub few : s'.count ≤ row_limit
  pub low : s'.next ≤ temporary_limit
  pub small : (j : ℕ) → get_or ms' j 0 ≤ s'.next
  pub named : All (NumberedBelow s'.next) (rows_from rows' 0 s'.count)
  pub placed : All (OnRoot (λ i. i < n)) (rows_from rows' 0 s'.count)
