-- The first step: what sharing and trimming leave in the rows is the definition's, and so is check 8.
use mathlib.Core.Path.{◌≡◌, refl, ap, ap₂, sym, ◌∙◌}
use Prim.Native.Nat.{ℕ, ◌+◌, ◌≤◌}
use native.Mathlib.Omega.{arith}
use mathlib.Core.Bool.{Bool, true, false}
use mathlib.Core.List.{List, []}
use lib.ListN.{length, replicate, length-replicate}
use Rattle.limits.specs.Limits.{node_limit}
use Rattle.symbol.specs.declared.Loc.{Loc}
use Rattle.header.specs.declared.Header.{Header}
use Rattle.definitions.specs.Tree.{Tree}
use Rattle.definitions.specs.Statement.{Statement}
use Rattle.definitions.specs.Sheet.{got, scratch_count, sharing}
use Rattle.definitions.specs.Eliminate.{texts_of, eliminate}
use Rattle.definitions.specs.Trim.{Trimming, trim_all, too_wide}
use Rattle.definitions.specs.Answer.{temporary, texts, eliminated, trimmed, temporary_count}
use Rattle.node.specs.Views.{Fresh, zeros}
use Rattle.node.proofs.Views.{zeros_unmarked}
use Rattle.ershov.specs.Number.{Ershovs}
use Rattle.statement.specs.declared.Row.{Row}
use Rattle.statement.specs.declared.State.{State}
use Rattle.statement.specs.Rows.{RoomFor, rows_from, statements_of, sheet_from}
use Rattle.statement.specs.Rowing.{spent}
use Rattle.statement.specs.Handover.{Unmarked, SheetTrimmed}
use Rattle.block.specs.Sharing.{Eliminated}
use Rattle.std.specs.Prelude.{Result, Ok, Err}
use Rattle.refusal.specs.declared.Refusal.{Refusal}
use Rattle.refusal.specs.declared.Refusal.TheVariants.{Call}
use Rattle.builder.specs.declared.Sheet.{Sheet}
use Rattle.builder.specs.declared.Memory.{Memory}
use Rattle.builder.specs.Steps.{ReadFrom, rows_say, Listable, trims_rows, RowsTrimTo, TrimsTo}

-- an array has room for as many rows as it has
pub rows_room : (r : Row) (k count : ℕ) → count ≤ k → RoomFor (replicate k r) count
rows_room r k count h = rw (length-replicate {0} {A = Row} k r) h

-- an array of zeros marks no node
pub zeros_unmark : Unmarked (replicate node_limit 0)
zeros_unmark = record { blank = λ i. zeros_unmarked node_limit i; wide = length-replicate {0} {A = ℕ} node_limit 0 }

-- ---- from the rows that sharing left

module _ (b : Sheet) (marks : List ℕ) (shared : List Row) (e : State) (m : Memory) (s : State)
    (put : SheetTrimmed b.header.sharing b.header.scratch b.sheet.nodes.words.now marks m.marks.now.words shared m.trimmed.now
    b.sheet.nodes.count e s)
    (numbers : Ershovs b.sheet.nodes.words.now m.marks.now.words m.heads.now.words 0 b.sheet.nodes.count)
  where
    pub rows_listable : Listable b m s
    rows_listable =
        record {
          sharing = b.header.sharing;
          scratch = b.header.scratch;
          marks = marks;
          shared = shared;
          e = e;
          put = put;
          numbers = numbers;
        }

    module _ (wide : Bool) (by_rows : (places : ℕ → Loc) → wide ≡ too_wide b.header.scratch (rows_say places b m s)) where
      -- check 8 of the rows is that of the statements
      wide_is : (places : ℕ → Loc) → Fresh places b.sheet.nodes.words.now b.sheet.nodes.count →
          too_wide b.header.scratch (trims_rows b marks shared e places).statements ≡ wide
      wide_is places f = rw (put.trimmed places f) (sym (by_rows places))

      pub rows_refused : wide ≡ true → RowsTrimTo b marks shared e m (Err Call)
      unfolding RowsTrimTo
      rows_refused on = (refl, λ places f. wide_is places f ∙ on)

      pub rows_trimmed : wide ≡ false → RowsTrimTo b marks shared e m (Ok s)
      unfolding RowsTrimTo
      rows_trimmed off = (rows_listable, λ places f. (put.trimmed places f, wide_is places f ∙ off))

-- ---- from the sheet's rows

-- a row for each statement, and one for each node, are enough
pub room_left : {sharing : Bool} {ws : List ℕ} {rows : List Row} {n count : ℕ} {ms : List ℕ} {er : List Row} {e : State}
    (rs : List Row) →
    Eliminated sharing ws rows n count ms er e → RoomFor rs (count + n) →
    RoomFor rs (spent (rows_from er 0 e.count) + zeros ms n)
room_left rs x room = omega (arith, x.room, room)

module _ (b : Sheet) (marks : List ℕ) (er : List Row) (e : State)
    (shared : Eliminated b.header.sharing b.sheet.nodes.words.now b.sheet.rows.now b.sheet.nodes.count b.header.count marks er e) where
  module _ (file : List ℕ) (read : ReadFrom file b) where
    abbrev sheet : List Statement
    sheet = read.1.sheet

    same_sheet : sheet_from b.sheet.nodes.words.now b.sheet.rows.now 0 b.header.count ≡ sheet
    same_sheet = ap (λ (h : Header). sheet_from b.sheet.nodes.words.now b.sheet.rows.now 0 h.count) read.0 ∙ read.1.stands

    same_texts : texts_of b.header.sharing (sheet_from b.sheet.nodes.words.now b.sheet.rows.now 0 b.header.count) ≡ texts file sheet
    same_texts = ap₂ texts_of (ap (λ (h : Header). h.sharing) read.0) same_sheet

    -- from the definition's number of texts and eliminated statements to those of sharing
    trimmed_is : trimmed file sheet ≡ trims_rows b marks er e (temporary file)
    unfolding trimmed eliminated
    trimmed_is =
        let trims : ℕ → List Statement → _ = λ k ss. trim_all (sharing file) (scratch_count file) (temporary file) k [] ss in
        ap (λ (k : ℕ). trims k (eliminate (texts file sheet) (temporary file) [] sheet))
        (sym (shared.given ∙ ap length same_texts))
        ∙ ap (λ (ss : List Statement). trims e.next ss)
        (sym (shared.statements (temporary file)
        ∙ ap₂ (λ (ts : List Tree) (ss : List Statement). eliminate ts (temporary file) [] ss) same_texts same_sheet))
        ∙ ap (λ (h : Header). trim_all h.sharing h.scratch (temporary file) e.next []
        (statements_of (temporary file) b.sheet.nodes.words.now marks (rows_from er 0 e.count))) (sym read.0)

    -- so is check 8
    wide_was : {wide : Bool} → too_wide b.header.scratch (trims_rows b marks er e (temporary file)).statements ≡ wide
        → too_wide (scratch_count file) (trimmed file sheet).statements ≡ wide
    wide_was k =
        let scratch : b.header.scratch ≡ scratch_count file = ap (λ (h : Header). h.scratch) read.0 in
        ap₂ (λ (c : ℕ) (t : Trimming). too_wide c t.statements) (sym scratch) trimmed_is ∙ k

  pub sheet_trims : (m : Memory) (t : Result State Refusal) → RowsTrimTo b marks er e m t → TrimsTo b m t
  unfolding TrimsTo RowsTrimTo temporary_count
  sheet_trims m (Ok s) x = (
    x.0,
    (λ file read.
        let done = x.1 (temporary file) read.1.fresh in
        rw (read.1.read, wide_was file read done.1)
        (ap (λ (t : Trimming). got t.statements t.next) (trimmed_is file read ∙ done.0))),
  )
  sheet_trims m (Err r) x = λ file read. rw (read.1.read, wide_was file read (x.1 (temporary file) read.1.fresh), x.0) refl

-- what the first step asks for with sharing on, and gives
pub ruleset shared_step = (rows_room, room_left, sheet_trims)
