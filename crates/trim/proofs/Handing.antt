-- A trimmer handed on goes by the same nodes and settings. Assumes nothing.
use mathlib.Core.Path.{◌∙◌}
use Prim.Native.Nat.{ℕ}
use Rattle.statement.specs.declared.Row.{Row}
use Rattle.calls.specs.declared.Trimmer.{Trimmer}
use Rattle.calls.specs.Progress.{Progress, SameTrimmer}
use Rattle.calls.specs.Calls.{CallBroken}
use Rattle.trim.specs.declared.Trimmed.{Trimmed as Answer}
use Rattle.trim.specs.Trimming.{ViewTrimmed}
use Rattle.trim.specs.Sheet.{RowTrimmed}

pub same_twice : {a b c : Trimmer} → SameTrimmer a b → SameTrimmer b c → SameTrimmer a c
same_twice f g =
    record {
      nodes = g.nodes ∙ f.nodes;
      settings = g.settings ∙ f.settings;
      marks = g.marks ∙ f.marks;
      rows = g.rows ∙ f.rows;
      heads = g.heads ∙ f.heads;
    }

module _ {old new : Trimmer} (same : SameTrimmer old new) where
  pub view_back : {i : ℕ} {p p' : Progress} {a : Answer} →
      ViewTrimmed new.settings new.nodes.words.now new.nodes.count i p p' a →
      ViewTrimmed old.settings old.nodes.words.now old.nodes.count i p p' a
  view_back x = rw (same.nodes, same.settings) at x

  pub broken_back : {i k : ℕ} {p p' : Progress} →
      CallBroken new.settings.sharing new.nodes.words.now new.nodes.count i p p' k →
      CallBroken old.settings.sharing old.nodes.words.now old.nodes.count i p p' k
  broken_back x = rw (same.nodes, same.settings) at x

  pub row_back : {p p' : Progress} {row : Row} → RowTrimmed new.settings new.nodes.words.now new.nodes.count p p' row →
      RowTrimmed old.settings old.nodes.words.now old.nodes.count p p' row
  row_back x = rw (same.nodes, same.settings) at x
