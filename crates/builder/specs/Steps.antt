-- The two steps of an answer in code: trimmed statements as rows, and then their list.
use Rattle.std.specs.Prelude.{◌≡◌, ℕ, Bool, ◌+◌, ◌≤◌, true, false, List, [], Result, Ok, Err, length}
use Rattle.limits.specs.Limits.{row_limit}
use Rattle.symbol.specs.declared.Loc.{Loc}
use Rattle.header.specs.Settings.{header_of}
use Rattle.definitions.specs.Statement.{Statement}
use Rattle.definitions.specs.Sheet.{got, bad}
use Rattle.definitions.specs.Trim.{Trimming, trim_all, too_wide}
use Rattle.definitions.specs.Answer.{temporary, compiled, judged}
use Rattle.node.specs.Views.{Fresh}
use Rattle.ershov.specs.Number.{Ershovs}
use Rattle.statement.specs.declared.Row.{Row}
use Rattle.statement.specs.declared.State.{State}
use Rattle.statement.specs.Rows.{RoomFor, rows_from, statements_of}
use Rattle.statement.specs.Handover.{Unmarked, SheetTrimmed}
use Rattle.reader.specs.Reads.{SheetRead}
use Rattle.refusal.specs.declared.Refusal.{Refusal}
use Rattle.refusal.specs.declared.Refusal.TheVariants.{Call}
use Rattle.refusal.specs.Numbers.{number_of as refusal_number}
use Rattle.builder.specs.Compiled.{Answered}
use Rattle.builder.specs.Gives.{operations_of, Gives}
use Rattle.builder.specs.declared.Sheet.{Sheet}
use Rattle.builder.specs.declared.Memory.{Memory}

-- the statements that the sheet was read into stand in a file
abbrev pub ReadFrom : (file : List ℕ) → Sheet → Type 0
ReadFrom file b = (b.header ≡ header_of file) × SheetRead file b.sheet.nodes.words.now b.sheet.rows.now b.sheet.nodes.count

-- the statements of the first rows, wherever temporaries are
abbrev pub rows_say : (places : ℕ → Loc) → Sheet → Memory → State → List Statement
rows_say places b m s = statements_of places b.sheet.nodes.words.now m.marks.now.words (rows_from m.trimmed.now 0 s.count)

-- a step writes to the same arrays: no type can say so, since it is of two states
pub record SameMemory (old new : Memory) : Type 0 where
  pub marks : new.marks.ghost_name ≡ old.marks.ghost_name
  pub heads : new.heads.ghost_name ≡ old.heads.ghost_name
  pub trimmed : new.trimmed.ghost_name ≡ old.trimmed.ghost_name

-- no node marked, no call chained, and room for the rows of the sheet's trimmed statements
pub record TrimReady (b : Sheet) (m : Memory) : Type 0 where
  pub marks : Unmarked m.marks.now.words
  pub chains : Unmarked m.heads.now.words
  pub room : RoomFor m.trimmed.now (b.header.count + b.sheet.nodes.count)
  pub short : length m.trimmed.now ≤ row_limit

-- the Ershov numbers of the trimmed trees are kept
abbrev pub KeepsNumbers : Sheet → Memory → Type 0
KeepsNumbers b m = Ershovs b.sheet.nodes.words.now m.marks.now.words m.heads.now.words 0 b.sheet.nodes.count

-- rows that can be emitted: trimming put them out, and the Ershov numbers of their trees are kept
pub record Listable (b : Sheet) (m : Memory) (s : State) : Type 0 where
  pub sharing : Bool
  pub scratch : ℕ
  pub marks : List ℕ
  pub shared : List Row
  pub e : State
  pub put : SheetTrimmed sharing scratch b.sheet.nodes.words.now marks m.marks.now.words shared m.trimmed.now b.sheet.nodes.count e s
  pub numbers : KeepsNumbers b m

-- what trimming makes of the statements of the shared rows, by the definition
abbrev pub trims_rows : Sheet → (marks : List ℕ) (shared : List Row) (e : State) (places : ℕ → Loc) → Trimming
trims_rows b marks shared e places =
    trim_all b.header.sharing b.header.scratch places e.next []
    (statements_of places b.sheet.nodes.words.now marks (rows_from shared 0 e.count))

-- the end of the first step is the definition's, wherever temporaries are
unfoldable pub RowsTrimTo : (b : Sheet) (marks : List ℕ) (shared : List Row) (e : State) (m : Memory) → Result State Refusal → Type 0
RowsTrimTo b marks shared e m (Ok s) =
    Listable b m s
    × ((places : ℕ → Loc) → Fresh places b.sheet.nodes.words.now b.sheet.nodes.count →
    (trims_rows b marks shared e places ≡ record { next = s.next; statements = rows_say places b m s })
    × (too_wide b.header.scratch (trims_rows b marks shared e places).statements ≡ false))
RowsTrimTo b marks shared e m (Err r) =
    (r ≡ Call)
    × ((places : ℕ → Loc) → Fresh places b.sheet.nodes.words.now b.sheet.nodes.count →
    too_wide b.header.scratch (trims_rows b marks shared e places).statements ≡ true)

-- the first step is the definition's, of each file whose sheet was read
unfoldable pub TrimsTo : Sheet → Memory → Result State Refusal → Type 0
TrimsTo b m (Ok s) =
    Listable b m s × ((file : List ℕ) → ReadFrom file b → compiled file ≡ got (rows_say (temporary file) b m s) s.next)
TrimsTo b m (Err r) = (file : List ℕ) → ReadFrom file b → compiled file ≡ bad (refusal_number r)

-- so is the second, of the statements that the rows say
unfoldable pub ListsTo : Sheet → Memory → (s : State) (out out' : List ℕ) → Answered → Type 0
ListsTo b m s out out' r =
    (file : List ℕ) → b.header ≡ header_of file →
    let step = got (rows_say (temporary file) b m s) s.next in
    Gives (judged file (length out) step) (operations_of file step) out out' r

-- and both
unfoldable pub CompilesTo : Sheet → (out out' : List ℕ) → Answered → Type 0
CompilesTo b out out' r =
    (file : List ℕ) → ReadFrom file b → Gives (judged file (length out) (compiled file)) (operations_of file (compiled file)) out out' r
