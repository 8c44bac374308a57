-- Laws of trimming one row: what its root may count on, what it costs, and that there is room for the row then. Assumes nothing.
use mathlib.Core.Path.{◌≡◌, sym, ap, ◌∙◌}
use mathlib.Core.List.{List}
use Prim.Native.Nat.{ℕ}
use native.Mathlib.Omega.{arith}
use Rattle.std.proofs.Common.{Option}
use lib.ListN.{get_or}
use Rattle.limits.specs.Words.{word_of}
use Rattle.symbol.specs.declared.Loc.{Loc}
use Rattle.calls.specs.declared.Settings.{Settings}
use Rattle.calls.specs.Progress.{Progress, RowReady}
use Rattle.definitions.specs.Tree.{ershov}
use Rattle.definitions.specs.Trim.{trim}
use Rattle.node.specs.Views.{masked, seen, view}
use Rattle.node.proofs.Views.{view_unmarked}
use Rattle.statement.specs.declared.Row.{Row}
use Rattle.statement.specs.declared.Row.TheVariants.{Given, Copied, Kept, Passed, Made}
use Rattle.statement.specs.Rows.{statements_of}
use Rattle.statement.proofs.RowsSpent.{row_spends}
use Rattle.trim.specs.declared.Trimmed.{Trimmed as Answer}
use Rattle.trim.specs.Trimming.{read_of, ViewTrimmed, NodeTrimmed}
use Rattle.trim.specs.Sheet.{RowToTrim, RootTrimmed, NoRoot, PartTrimmed}
use Rattle.trim.proofs.Trimming.{result}

module _ {h : Settings} {ws : List ℕ} {n : ℕ} {p : Progress} {row : Row} (ready : RowToTrim h ws n p row) where
  -- ---- a sheet's statement: its root has no mark, and gets one

  module _ {q : Loc} {i : ℕ} (told : row ≡ Given q i) where
    blank : get_or p.marks i 0 ≡ 0
    blank = rw told at ready.blank

    pub given_trimmed : {p' : Progress} {a : Answer} → ViewTrimmed h ws n i p p' a → PartTrimmed h ws n p p' row a.temporary
    given_trimmed {p'} {a} x =
        let named : (temporary : ℕ → Loc) →
        view temporary ws p'.marks i ≡ masked temporary (word_of a.temporary) (seen temporary ws p'.marks i) =
        λ temporary. ap (λ (m : ℕ). masked temporary m (seen temporary ws p'.marks i)) (sym x.named) in
        rw told
        record {
          er = a.ershov;
          left = 0;
          tree =
              record {
                rows = x.tree.rows;
                so = x.tree.so;
                trimmed = λ temporary f.
                    ap (trim h.sharing h.scratch temporary p.state.next (read_of temporary ws p))
                    (sym (view_unmarked temporary ws p.marks i blank))
                    ∙ x.tree.trimmed temporary f
                    ∙ ap (result p'.state.next (statements_of temporary ws p'.marks x.tree.rows)) (named temporary);
                number = λ temporary. x.tree.number temporary ∙ ap ershov (named temporary);
                few = x.tree.few;
              };
          cost = x.tree.so.counted;
          mark = omega (arith, x.named, x.tree.so.small i);
        }

  -- ---- a tree that sharing kept: its root has its text's mark

  module _ {m i : ℕ} (told : row ≡ Kept m i) where
    pub kept_trimmed : {p' : Progress} (a : Answer) → NodeTrimmed h ws n i p p' a → PartTrimmed h ws n p p' row a.temporary
    kept_trimmed a x =
        rw told
        record {
          er = a.ershov;
          left = word_of a.temporary;
          tree = x;
          cost = omega (arith, x.so.counted);
          mark = x.so.mark;
        }

-- ---- then there is room for the row

module _ {h : Settings} {ws : List ℕ} {n : ℕ} {p m : Progress} (r : Option ℕ) where
  root_room : {lo i : ℕ} (row : Row) → RowToTrim h ws n p row → RootTrimmed h ws n lo i p m row r → RowReady m
  root_room row ready x =
      let long = x.tree.so.long in
      record { room = omega (arith, x.cost, ready.room); few = omega (arith, x.cost, ready.room, ready.long) }

  bare_room : (row : Row) → RowToTrim h ws n p row → NoRoot p m r → RowReady m
  bare_room row ready x =
      rw x.same
      record { room = omega (arith, ready.room, row_spends row); few = omega (arith, ready.room, ready.long, row_spends row) }

  pub part_room : (row : Row) → RowToTrim h ws n p row → PartTrimmed h ws n p m row r → RowReady m
  part_room (Given q i) = root_room (Given q i)
  part_room (Copied q k) = bare_room (Copied q k)
  part_room (Kept k i) = root_room (Kept k i)
  part_room (Passed j k) = bare_room (Passed j k)
  part_room (Made k i link key) = bare_room (Made k i link key)
