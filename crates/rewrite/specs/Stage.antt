-- How far the second pass is: the flags of the texts that are stored, and the rows that are out.
use Rattle.std.specs.Prelude.{◌≡◌, ℕ, zero, suc, ◌+◌, ◌*◌, ◌<◌, Bool, true, false, cond, List, get_or, set, replicate}
use Rattle.limits.specs.Limits.{node_limit, row_limit}
use Rattle.definitions.specs.Eliminate.{holds}
use Rattle.statement.specs.declared.Row.{Row}
use Rattle.statement.specs.declared.Row.TheVariants.{Given, Copied, Kept, Passed, Made}
use Rattle.statement.specs.Rows.{RoomFor, row_at, rows_from}
use Rattle.statement.specs.Rowing.{OnRoot, OnGiven, Unmade, NumberedBelow, spent}
use Rattle.statement.specs.Handover.{Owned}
use Rattle.rewrite.specs.declared.Output.{Output}

pub record Stage : Type 0 where
  pub flags : List Bool
  pub rows : List Row
  pub count : ℕ

abbrev pub stage : (flags : List Bool) (rows : List Row) (count : ℕ) → Stage
stage flags rows count = record { flags = flags; rows = rows; count = count }

abbrev pub stage_of : Output → Stage
stage_of x = stage x.stored x.rows.now x.count

-- nothing is stored, and no row is out
abbrev pub Fresh : Stage → Type 0
Fresh p = (p.flags ≡ replicate node_limit false) × (p.count ≡ 0)

-- with a row more, and with text t stored
abbrev pub put : Stage → Row → Stage
put p r = stage p.flags (set p.rows p.count r) (p.count + 1)

abbrev pub flag : Stage → (t : ℕ) → Stage
flag p t = stage (set p.flags t true) p.rows p.count

-- a row more is left
abbrev pub RowLeft : Stage → Type 0
RowLeft p = RoomFor p.rows (p.count + 1) × (p.count < row_limit)

abbrev pub rows_of : Stage → List Row
rows_of p = rows_from p.rows 0 p.count

-- how many of the first k flags are not set
unfoldable pub unset : (flags : List Bool) (k : ℕ) → ℕ
unset flags zero = 0
unset flags (suc k) = cond (get_or flags k false) 0 1 + unset flags k

-- a stored temporary's flag is set
abbrev pub Flagged : (flags : List Bool) (stored : List ℕ) → Type 0
Flagged flags stored = (t : ℕ) → t < node_limit → holds stored t ≡ get_or flags t false

-- rows that are spent, with those that each of k texts takes where it is not stored yet
abbrev pub pledged : (p : Stage) (k : ℕ) → ℕ
pledged p k = spent (rows_of p) + 2 * unset p.flags k

-- what trimming is handed of a row, over n nodes and k texts
pub record RowShared (ws sh : List ℕ) (n k : ℕ) (r : Row) : Type 0 where
  pub unmade : Unmade r
  pub named : NumberedBelow k r
  pub placed : OnRoot (λ i. i < n) r
  pub owned : OnRoot (Owned ws sh) r
  pub unmarked : OnGiven (λ i. get_or sh i 0 ≡ 0) r

-- x is the root of a row
abbrev pub RootIs : Row → ℕ → Type 0
RootIs (Given place root) x = root ≡ x
RootIs (Copied place t) x = ⊥
RootIs (Kept t root) x = root ≡ x
RootIs (Passed t u) x = ⊥
RootIs (Made t root link key) x = root ≡ x

-- x is no row's root
abbrev pub NoRoot : (x : ℕ) → Stage → Type 0
NoRoot x p = (j : ℕ) → j < p.count → RootIs (row_at p.rows j) x → ⊥

-- x may be a row's root: a text's whose flag is set, or a statement's below hi
abbrev pub MayRoot : (sh : List ℕ) (flags : List Bool) (hi x : ℕ) → Type 0
MayRoot sh flags hi x = (get_or sh x 0 ≡ 0 → x < hi) × ((t : ℕ) → get_or sh x 0 ≡ t + 1 → get_or flags t false ≡ true)

-- the rows are fit for trimming, and no two have one root
pub record Tidy (ws sh : List ℕ) (n k hi : ℕ) (p : Stage) : Type 0 where
  pub shared : (j : ℕ) → j < p.count → RowShared ws sh n k (row_at p.rows j)
  pub rooted : (j x : ℕ) → j < p.count → RootIs (row_at p.rows j) x → MayRoot sh p.flags hi x
  pub apart : (i j x : ℕ) → i < j → j < p.count → RootIs (row_at p.rows i) x → RootIs (row_at p.rows j) x → ⊥
