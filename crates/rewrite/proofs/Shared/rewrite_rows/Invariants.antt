-- What is out, with what the other statements come to, is the whole.
use Rattle.std.proofs.Common.{◌≡◌, ℕ, List, length}
use Rattle.definitions.specs.Tree.{Tree}
use Rattle.statement.specs.Handover.{SheetHeld, SheetShared}
use Rattle.rewrite.specs.Stage.{stage_of}
use Rattle.rewrite.proofs.Sheets.{Underway}
use Rattle.rewrite.proofs.Shared.rewrite_rows.Given as goal

abbrev pub invariant-loop-row : goal.invariant-loop-row
invariant-loop-row l =
    record {
      same : l.out.rows.ghost_name ≡ l.initial.out.rows.ghost_name;
      long : length l.out.rows.now ≡ length l.initial.out.rows.now;
      underway : (n : ℕ) (texts : List Tree) →
          SheetHeld l.self.sheet.nodes.words.now l.self.sheet.rows.now n (length l.self.sheet.rows.now) →
          SheetShared l.self.sheet.nodes.words.now l.self.marks.now.words l.self.texts.now n texts →
          Underway l.self.sheet.nodes.words.now l.self.marks.now.words l.self.sheet.rows.now (length l.self.sheet.rows.now)
          l.row-index n texts (stage_of l.out);
    }
