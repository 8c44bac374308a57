-- What the search for an earlier call asks and answers, and what a call at a node comes to.
use Rattle.std.specs.Prelude.{◌≡◌, ◌≢◌, ℕ, ◌+◌, ◌<◌, ◌≤◌, Bool, cond, true, List, [], ◌∷◌, length, set}
use Rattle.std.specs.Prelude.{Option, None, Some, IfSome}
use Rattle.std.proofs.Math.Option as maybe
use Rattle.limits.specs.Limits.{row_limit, temporary_limit}
use Rattle.symbol.specs.declared.Loc.{Loc}
use Rattle.definitions.specs.Trim.{seek}
use Rattle.node.specs.Nodes.{node_at, end_at, is_function}
use Rattle.node.specs.Views.{seen, Fresh}
use Rattle.statement.specs.declared.Row.{Row}
use Rattle.statement.specs.declared.Row.TheVariants.{Made}
use Rattle.statement.specs.Rows.{RoomFor, HasLink, key_at, row_at, statements_of}
use Rattle.statement.specs.Rowing.{All, OnRoot, NumberedBelow}
use Rattle.compare.specs.Comparison.{Comparable}
use Rattle.keys.specs.Keys.{MarksLow}
use Rattle.calls.specs.Index.{SeekReady, Indexed}
use Rattle.calls.specs.Progress.{Progress, progress, progress_of, rows_of}
use Rattle.calls.specs.declared.Trimmer.{Trimmer}

-- the call at node i is sought among rows: they have roots to compare, and numbers
pub record CallSought (ws : List ℕ) (i : ℕ) (rows : List Row) : Type 0 where
  pub tree : Comparable ws i
  pub called : is_function (node_at ws i) ≡ true
  pub placed : All (OnRoot (Comparable ws)) rows
  pub named : All (NumberedBelow temporary_limit) rows

-- the earlier temporary of the call at node i among rows, none with sharing off
abbrev pub sought : (sharing : Bool) (temporary : ℕ → Loc) (ws ms : List ℕ) (i : ℕ) → List Row → maybe.Option Loc
sought sharing temporary ws ms i rows =
    cond sharing (seek (seen temporary ws ms i) (statements_of temporary ws ms rows)) maybe.none

-- the place of the temporary with the number that was found, if one was
abbrev pub found_as : (temporary : ℕ → Loc) → Option ℕ → maybe.Option Loc
found_as temporary None = maybe.none
found_as temporary (Some k) = maybe.some (temporary k)

-- temporaries are no variables of the call's tree and of the rows' trees
pub record CallFresh (temporary : ℕ → Loc) (ws : List ℕ) (i : ℕ) (rows : List Row) : Type 0 where
  pub nodes : ℕ
  pub fresh : Fresh temporary ws nodes
  pub tree : end_at ws i ≤ nodes
  pub trees : All (OnRoot (λ b. end_at ws b ≤ nodes)) rows

-- what the search answers, whatever places the temporaries have
pub record CallFound (ws ms : List ℕ) (i : ℕ) (rows : List Row) (r : Option ℕ) : Type 0 where
  pub low : (next : ℕ) → All (NumberedBelow next) rows → IfSome r (λ k. k < next)
  pub is : (temporary : ℕ → Loc) → CallFresh temporary ws i rows → sought true temporary ws ms i rows ≡ found_as temporary r

-- row k may be asked for the call at node i: a row with another key makes another call
pub record RowAsked (ws ms : List ℕ) (rows : List Row) (i key k : ℕ) : Type 0 where
  pub room : RoomFor rows (k + 1)
  pub linked : HasLink rows k
  pub sought : CallSought ws i (row_at rows k ∷ [])
  pub apart : key_at rows k ≢ key → CallFound ws ms i (row_at rows k ∷ []) None

-- a call at node i of a table of n nodes may be broken out
pub record CallReady (sharing : Bool) (ws : List ℕ) (n i : ℕ) (p : Progress) : Type 0 where
  pub within : i < n
  pub called : is_function (node_at ws i) ≡ true
  pub few : p.state.count < row_limit
  pub low : p.state.next < temporary_limit
  pub room : RoomFor p.rows (p.state.count + 1)
  pub marks : MarksLow p.marks
  pub placed : All (OnRoot (λ b. b < n)) (rows_of p)
  pub named : All (NumberedBelow p.state.next) (rows_of p)
  pub indexed : Indexed sharing ws p.marks p.rows p.heads p.state.count

-- a row put for it into the next temporary, with a link and a key
abbrev pub with_call : (p : Progress) (i link key : ℕ) → Progress
with_call p i link key =
    progress p.marks (set p.rows p.state.count (Made p.state.next i link key)) p.heads
    (record { next = p.state.next + 1; count = p.state.count + 1 })

-- other heads of chains
abbrev pub with_heads : Progress → List ℕ → Progress
with_heads p heads = progress p.marks p.rows heads p.state

-- it was broken out into temporary k: an earlier call's, or a row is put for it
pub data CallBroken (sharing : Bool) (ws : List ℕ) (n i : ℕ) (p p' : Progress) (k : ℕ) : Type 0 where
  found : p' ≡ p → k < p.state.next
      → ((temporary : ℕ → Loc) → Fresh temporary ws n →
      sought sharing temporary ws p.marks i (rows_of p) ≡ maybe.some (temporary k))
      → CallBroken sharing ws n i p p' k
  made : (link key : ℕ) (heads : List ℕ) → k ≡ p.state.next → p' ≡ with_call (with_heads p heads) i link key
      → ((temporary : ℕ → Loc) → Fresh temporary ws n → sought sharing temporary ws p.marks i (rows_of p) ≡ maybe.none)
      → length heads ≡ length p.heads → Indexed sharing ws p'.marks p'.rows p'.heads p'.state.count
      → CallBroken sharing ws n i p p' k

-- these of a trimmer: the call at node i is sought among rows,
abbrev pub Seeks : (t : Trimmer) (i : ℕ) → List Row → Type 0
Seeks t i rows = CallSought t.nodes.words.now i rows

-- in the chain that begins with v,
abbrev pub SeeksFrom : (t : Trimmer) (i v key : ℕ) → Type 0
SeeksFrom t i v key = SeekReady t.nodes.words.now t.marks.now.words t.rows.now i v key t.state.count

-- whose row k may be asked,
abbrev pub AsksRow : (t : Trimmer) (i key k : ℕ) → Type 0
AsksRow t i key k = RowAsked t.nodes.words.now t.marks.now.words t.rows.now i key k

-- and what is found among rows;
abbrev pub Finds : (t : Trimmer) (i : ℕ) → List Row → Option ℕ → Type 0
Finds t i rows r = CallFound t.nodes.words.now t.marks.now.words i rows r

-- the call at node i may be broken out,
abbrev pub BreaksReady : (t : Trimmer) (i : ℕ) → Type 0
BreaksReady t i = CallReady t.settings.sharing t.nodes.words.now t.nodes.count i (progress_of t)

-- and was broken out into temporary k
abbrev pub Breaks : (t t' : Trimmer) (i k : ℕ) → Type 0
Breaks t t' i k = CallBroken t.settings.sharing t.nodes.words.now t.nodes.count i (progress_of t) (progress_of t') k
