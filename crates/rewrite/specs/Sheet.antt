-- What the second pass of `eliminate` is given, and what it puts out.
use Rattle.std.specs.Prelude.{◌≡◌, ℕ, ◌+◌, ◌≤◌, List, [], length}
use Rattle.limits.specs.Limits.{row_limit}
use Rattle.symbol.specs.declared.Loc.{Loc}
use Rattle.definitions.specs.Tree.{Tree}
use Rattle.definitions.specs.Eliminate.{eliminate}
use Rattle.node.specs.Views.{zeros}
use Rattle.statement.specs.declared.Row.{Row}
use Rattle.statement.specs.declared.Sheet.{Sheet}
use Rattle.statement.specs.Rows.{RoomFor, rows_from, statements_of, sheet_from}
use Rattle.statement.specs.Rowing.{spent}
use Rattle.statement.specs.Handover.{SheetHeld, SheetShared, SheetEliminated}

-- a sheet with its shared trees, and room for a row of each statement and node
pub record Start (sheet : Sheet) (sh tx : List ℕ) (out : List Row) : Type 0 where
  pub texts : List Tree
  pub shared : SheetShared sheet.nodes.words.now sh tx sheet.nodes.count texts
  pub long : RoomFor out (length sheet.rows.now + sheet.nodes.count)
  pub short : length out ≤ row_limit

-- the e rows put out are the eliminated statements, fit for trimming
pub record RewrittenSheet (ws sh : List ℕ) (rows out : List Row) (count e n : ℕ) (texts : List Tree) : Type 0 where
  pub handed : SheetEliminated ws sh out n (record { next = length texts; count = e })
  pub room : spent (rows_from out 0 e) + zeros sh n ≤ count + n
  pub statements : (temporary : ℕ → Loc) →
      statements_of temporary ws sh (rows_from out 0 e) ≡ eliminate texts temporary [] (sheet_from ws rows 0 count)

abbrev pub Eliminates : (ws sh tx : List ℕ) (rows out : List Row) (count e : ℕ) → Type 0
Eliminates ws sh tx rows out count e =
    (n : ℕ) (texts : List Tree) → SheetHeld ws rows n count → SheetShared ws sh tx n texts →
    RewrittenSheet ws sh rows out count e n texts

abbrev pub SheetRewritten : (sheet : Sheet) (sh tx : List ℕ) (out : List Row) (e : ℕ) → Type 0
SheetRewritten sheet sh tx out e = Eliminates sheet.nodes.words.now sh tx sheet.rows.now out (length sheet.rows.now) e
