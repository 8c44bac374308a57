-- Two trimmed sides joined: as they are, or some of them stored in temporaries.
use Rattle.std.specs.Prelude.{ℕ, ◌+◌, ◌<◌, ◌≤◌, set}
use Rattle.limits.specs.Limits.{node_limit, row_limit, temporary_limit}
use Rattle.definitions.specs.Tree.{join}
use Rattle.definitions.specs.Trim.{Storing, nothing, right, both}
use Rattle.statement.specs.declared.Row.TheVariants.{Kept}
use Rattle.statement.specs.Rows.{RoomFor}
use Rattle.calls.specs.Progress.{Progress, progress}
use Rattle.trim.specs.declared.Storing.{Storing as Choice}
use Rattle.trim.specs.declared.Storing.TheVariants.{Nothing, Right, Both}

-- the definition's case of what the code chose
abbrev pub meant : Choice → Storing
meant Nothing = nothing
meant Right = right
meant Both = both

-- how many temporaries it takes
abbrev pub stores : Storing → ℕ
stores nothing = 0
stores right = 1
stores both = 2

-- what storing the sides l and r may count on: a row and a temporary for each that is stored
pub record StoreReady (how : Storing) (l r : ℕ) (p : Progress) : Type 0 where
  pub order : l < r
  pub within : r < node_limit
  pub few : p.state.count + stores how ≤ row_limit
  pub room : RoomFor p.rows (p.state.count + stores how)
  pub names : p.state.next + stores how ≤ temporary_limit

-- the tree of node j stored in a temporary
abbrev pub kept : (j : ℕ) → Progress → Progress
kept j p =
    progress (set p.marks j (p.state.next + 1)) (set p.rows p.state.count (Kept p.state.next j)) p.heads
    (record { next = p.state.next + 1; count = p.state.count + 1 })

-- the sides l and r, some of them stored
abbrev pub stored : Storing → (l r : ℕ) → Progress → Progress
stored nothing l r p = p
stored right l r p = kept r p
stored both l r p = kept r (kept l p)

-- the Ershov number over sides of the numbers x and y, as they are left: a temporary's is 1
abbrev pub joined : Storing → (x y : ℕ) → ℕ
joined nothing x y = join x y
joined right x y = join x 1
joined both x y = 2
