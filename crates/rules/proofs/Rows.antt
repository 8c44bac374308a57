-- The numbers of codes, and the side of a row that is a unary. Assumes nothing.
use mathlib.Core.Path.{◌≡◌, refl, sym, ap, ◌∙◌}
use mathlib.Core.Bool.{true, false, false≢true}
use mathlib.Core.List.{List}
use Prim.Native.Nat.{ℕ, ◌<◌}
use lib.Dec.{eqb}
use borrow.Author.Tests.{ne_eqb}
use Rattle.operation.specs.declared.UnaryCode.{UnaryCode}
use Rattle.operation.specs.Numbers.{unary_number}
use Rattle.operation.proofs.Numbers.{unary_number_tells}
use Rattle.definitions.specs.Tree.{Tree}
use Rattle.tidying.specs.Tidy.{is_unary, argument}
use Rattle.node.specs.declared.Node.{Node}
use Rattle.node.specs.declared.Node.TheVariants.{Const, Var, Unary as UnaryNode, Binary as BinaryNode}
use Rattle.node.specs.Sides.{Sides, tree_over}
use Rattle.node.specs.Nodes.{node_at, end_at}
use Rattle.links.specs.Links.{linked, Inside, Row}
use Rattle.links.proofs.Links.{row_side, row_tree, row_rises}

-- another code has another number
pub other_code : (c d : UnaryCode) → (c ≡ d → ⊥) → eqb (unary_number c) (unary_number d) ≡ false
other_code c d apart = ne_eqb (unary_number c) (unary_number d) (λ e. apart (unary_number_tells c d e))

module _ (tree : ℕ → Tree) (left : ℕ) where
  -- a unary's argument is its left side
  unary_side : (P : ℕ → Type 0) (c : UnaryCode) (x : Node) → is_unary c (tree_over tree left x) ≡ true → Sides P left x →
      (tree left ≡ argument (tree_over tree left x)) × P left
  unfolding Sides
  unary_side P c (Const k) h s = absurd (false≢true h)
  unary_side P c (Var p) h s = absurd (false≢true h)
  unary_side P c (UnaryNode o) h s = (refl, s)
  unary_side P c (BinaryNode o r) h s = absurd (false≢true h)

-- ---- of a row

-- row e is the argument of row j
pub record Argument (rows : List ℕ) (j e : ℕ) : Type 0 where
  pub tree : linked rows e ≡ argument (linked rows j)
  pub after : j < e
  pub row : Row rows e

module _ {rows : List ℕ} {j : ℕ} (row : Row rows j) where
  pub row_argument : (c : UnaryCode) → is_unary c (linked rows j) ≡ true → {e : ℕ} → e ≡ end_at rows j → Argument rows j e
  row_argument c h is =
      let told = rw (row_tree row) at h in
      let side =
      unary_side (linked rows) (end_at rows j) (λ x. (j < x) × Inside rows x) c (node_at rows j) told (row_rises row) in
      rw is
      record { tree = side.0 ∙ sym (ap argument (row_tree row)); after = side.1.0; row = row_side (end_at rows j) row side.1 }
