-- The second step: checks 9 and 10 of the rows, and their list, are the definition's.
use mathlib.Core.Path.{◌≡◌, refl, ap, ◌∙◌}
use Prim.Native.Nat.{ℕ, ◌+◌, ◌*◌, ◌<◌, ◌≤◌}
use native.Mathlib.Omega.{arith}
use native.Mathlib.Nat.{mul-le-mul_left}
use mathlib.Core.List.{List}
use lib.ListN.{length, take, length-take}
use lib.Seq.{sets, length-sets, get_or-take}
use borrow.Author.Tests.{lt-ltb, le-ltb}
use Rattle.limits.specs.Limits.{index_end, row_limit}
use Rattle.header.specs.Settings.{header_of, temporary_of, Indexed}
use Rattle.definitions.specs.Sheet.{fused}
use Rattle.definitions.specs.Operations.{Op, list_words}
use Rattle.definitions.specs.Emit.{emit_all}
use Rattle.definitions.specs.Answer.{temporary}
use Rattle.statement.specs.declared.State.{State}
use Rattle.statement.specs.declared.Row.{Row}
use Rattle.statement.specs.declared.Row.TheVariants.{Given, Copied, Kept, Passed, Made}
use Rattle.statement.specs.Rows.{empty, row_at, statements_of}
use Rattle.statement.specs.Rowing.{OnRoot, NumberedBelow}
use Rattle.statement.proofs.EveryRow.{all_row}
use Rattle.ershov.specs.Shown.{KnownNode}
use Rattle.ershov.proofs.Numbers.{table_known}
use Rattle.evaluator.proofs.Temporaries.{indexed_below, marks_indexed}
use Rattle.evaluator.specs.Ready.{MarksIndexed}
use Rattle.evaluator.specs.declared.Evaluator.{Evaluator}
use Rattle.mir.specs.Lists.{RowFits, RowsFit, Listed}
use Rattle.mir.proofs.Listing.{rows_taken}
use Rattle.std.specs.Prelude.{Ok, Err}
use Rattle.refusal.specs.declared.Refusal.TheVariants.{Temporaries, Output}
use Rattle.builder.specs.declared.Sheet.{Sheet}
use Rattle.builder.specs.declared.Memory.{Memory}
use Rattle.builder.specs.Steps.{rows_say, Listable, ListsTo}

-- what emission asks for, once check 9 has passed
module _ (b : Sheet) (m : Memory) (s : State) (l : Listable b m s) (v : Evaluator) (header : v.header ≡ b.header)
    (nodes : v.trees.nodes ≡ b.sheet.nodes) (in_range : b.header.first + b.header.step * s.next ≤ index_end) where
  indexed : (i : ℕ) → i < s.next → Indexed v.header i
  indexed i low = rw header (indexed_below b.header s.next b.steps.steps in_range i low)

  -- a node of the table is known
  known : (j : ℕ) → j < v.trees.nodes.count → KnownNode v.trees j
  known = table_known v.trees.nodes.table v.trees.kept

  row_fits : (r : Row) → OnRoot (λ j. j < v.trees.nodes.count) r → NumberedBelow s.next r → RowFits v r
  row_fits (Given p j) root low = known j root
  row_fits (Copied p i) root low = indexed i low
  row_fits (Kept i j) root low = (indexed i low, known j root)
  row_fits (Passed i j) root low = (indexed i low.0, indexed j low.1)
  row_fits (Made i j link key) root low = (indexed i low, known j root)

  rows_fit : RowsFit v (take s.count m.trimmed.now)
  rows_fit i low =
      let below : i < s.count = omega (arith, low, length-take s.count m.trimmed.now) in
      rw (get_or-take s.count m.trimmed.now i empty below)
      (row_fits (row_at m.trimmed.now i)
      (all_row (OnRoot (λ j. j < v.trees.nodes.count)) m.trimmed.now s.count i (rw nodes l.put.placed) below)
      (all_row (NumberedBelow s.next) m.trimmed.now s.count i l.put.named below))

  pub rows_emit : (length (take s.count m.trimmed.now) ≤ row_limit) × RowsFit v (take s.count m.trimmed.now)
  rows_emit = (omega (arith, l.put.few, length-take s.count m.trimmed.now), rows_fit)

module _ (b : Sheet) (m : Memory) (s : State) (l : Listable b m s) where
  -- a temporary's index can be counted, whatever check 9 says
  pub index_small : b.header.first + b.header.step * s.next ≤ 100000
  index_small =
      let steps = b.steps in
      omega (arith, mul-le-mul_left b.header.step l.put.low, l.put.low, steps.short, steps.low)

  pub marks_fit : b.header.first + b.header.step * s.next ≤ index_end → MarksIndexed b.header m.marks.now.words
  marks_fit in_range = marks_indexed b.header s.next b.steps.steps in_range m.marks.now.words l.put.small

  -- the operations of the rows
  abbrev list : List Op
  list =
      emit_all b.header.fused
      (statements_of (temporary_of b.header) b.sheet.nodes.words.now m.marks.now.words (take s.count m.trimmed.now))

  module _ (out out' : List ℕ) where
    pub too_many : index_end < b.header.first + b.header.step * s.next → ListsTo b m s out out' (Err Temporaries)
    unfolding ListsTo
    too_many high file is = rw (lt-ltb _ _ (rw is at high)) refl

    -- what was emitted is the list
    module _ (in_range : b.header.first + b.header.step * s.next ≤ index_end) (ops : ℕ) {most : ℕ}
        (emitted : Listed list most ops out out') where
      same_room : length out' ≡ length out
      same_room = ap length emitted.words ∙ length-sets out 0 (list_words list)

      abbrev said : (file : List ℕ) → List Op
      said file = emit_all (fused file) (rows_say (temporary file) b m s)

      list_is : (file : List ℕ) → b.header ≡ header_of file → list ≡ said file
      list_is file is = rw (is, rows_taken m.trimmed.now s.count l.put.long) refl

      pub too_long : length out' < 6 * ops → ListsTo b m s out out' (Err Output)
      unfolding ListsTo
      too_long long file is =
          let counted : ops ≡ length (said file) = emitted.count ∙ ap length (list_is file is) in
          let past : length out < 6 * length (said file) = omega (arith, long, counted, same_room) in
          rw (le-ltb _ _ (rw is at in_range), lt-ltb _ _ past) refl

      pub all_listed : 6 * ops ≤ length out' → ListsTo b m s out out' (Ok (record { ops = ops; temps = s.next }))
      unfolding ListsTo
      all_listed fits file is =
          let counted : ops ≡ length (said file) = emitted.count ∙ ap length (list_is file is) in
          let room : 6 * ops ≤ length out = rw same_room at fits in
          let whole : 6 * length (said file) ≤ length out = rw counted at room in
          let words = emitted.words ∙ ap (λ (os : List Op). sets out 0 (list_words os)) (list_is file is) in
          (rw (le-ltb _ _ (rw is at in_range), le-ltb _ _ whole) refl, counted, room, words)
