-- The walk of the first pass as the code has it: what it goes by, and what it has met.
use Rattle.std.specs.Prelude.{◌≡◌, ℕ, List, length}
use Rattle.definitions.specs.Tree.{Tree}
use Rattle.definitions.specs.Statement.{Statement}
use Rattle.definitions.specs.Eliminate.{Walk}
use Rattle.node.specs.Nodes.{tree}
use Rattle.statement.specs.Rows.{sheet_from}
use Rattle.share.specs.declared.Walker.{Walker}
use Rattle.share.specs.declared.Meetings.{Meetings}
use Rattle.share.specs.Sharing.{Met, met, Unmet as NothingMet, TextsFit, Walked}

-- the tree of node i, and the statements of the sheet
abbrev pub tree_of : Walker → ℕ → Tree
tree_of s i = tree s.sheet.nodes.words.now i

abbrev pub statements_of : Walker → List Statement
statements_of s = sheet_from s.sheet.nodes.words.now s.sheet.rows.now 0 (length s.sheet.rows.now)

abbrev pub met_of : Meetings → Met
met_of m = met m.classes.now m.marks.now.words m.texts.now m.next

-- nothing is met yet
abbrev pub Unmet : (s : Walker) (m : Meetings) → Type 0
Unmet s m = NothingMet s.sheet.nodes.count (met_of m)

-- there is room for what is still to be met
abbrev pub Fits : (s : Walker) (m : Meetings) → Type 0
Fits s m = TextsFit s.sheet.nodes.count (met_of m)

-- a part of the walk
abbrev pub Walks : (s : Walker) (f : Walk → Walk) (m m' : Meetings) → Type 0
Walks s f m m' = Walked s.sheet.nodes.words.now s.classes.now s.sheet.nodes.count f (met_of m) (met_of m')

-- it writes to the arrays that were lent
abbrev pub SameLoans : (m m' : Meetings) → Type 0
SameLoans m m' =
    (m'.classes.ghost_name ≡ m.classes.ghost_name) × (m'.marks.ghost_name ≡ m.marks.ghost_name)
    × (m'.texts.ghost_name ≡ m.texts.ghost_name)
