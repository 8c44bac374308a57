-- How far trimming has come, as its code and its definitions see it.
use Rattle.std.specs.Prelude.{◌≡◌, ℕ, ◌+◌, ◌<◌, List, set}
use Rattle.limits.specs.Limits.{row_limit}
use Rattle.statement.specs.declared.Row.{Row}
use Rattle.statement.specs.declared.State.{State}
use Rattle.statement.specs.Rows.{RoomFor, rows_from}
use Rattle.calls.specs.declared.Trimmer.{Trimmer}

-- the nodes' marks, the rows, the heads of the chains of calls, and the next temporary with the number of rows
pub record Progress : Type 0 where
  pub marks : List ℕ
  pub rows : List Row
  pub heads : List ℕ
  pub state : State

abbrev pub progress : (marks : List ℕ) (rows : List Row) (heads : List ℕ) → State → Progress
progress marks rows heads s = record { marks = marks; rows = rows; heads = heads; state = s }

-- what a trimmer has come to
abbrev pub progress_of : Trimmer → Progress
progress_of t = progress t.marks.now.words t.rows.now t.heads.now.words t.state

-- the rows so far
abbrev pub rows_of : Progress → List Row
rows_of p = rows_from p.rows 0 p.state.count

-- a row put after them
abbrev pub with_row : Progress → Row → Progress
with_row p row =
    progress p.marks (set p.rows p.state.count row) p.heads (record { next = p.state.next; count = p.state.count + 1 })

-- there is room for one more
pub record RowReady (p : Progress) : Type 0 where
  pub room : RoomFor p.rows (p.state.count + 1)
  pub few : p.state.count < row_limit

-- a trimmer goes by the same nodes and settings as before, and writes to the same arrays: beside each clause, since a relation of two
-- states can't stand in a type
pub record SameTrimmer (old new : Trimmer) : Type 0 where
  pub nodes : new.nodes ≡ old.nodes
  pub settings : new.settings ≡ old.settings
  pub marks : new.marks.ghost_name ≡ old.marks.ghost_name
  pub rows : new.rows.ghost_name ≡ old.rows.ghost_name
  pub heads : new.heads.ghost_name ≡ old.heads.ghost_name
