-- Linked rows: a row's tree by its sides', and what it depends on. Assumes nothing.
use mathlib.Core.Path.{◌≡◌, refl, ap, ap₂}
use mathlib.Core.List.{List}
use Prim.Native.Nat.{ℕ, zero, suc, ◌+◌, ◌-◌, ◌*◌, ◌<◌, ◌≤◌}
use native.Mathlib.Omega.{arith}
use lib.ListN.{length, get_or}
use Rattle.limits.specs.Limits.{node_limit}
use Rattle.definitions.specs.Tree.{Tree, one, two}
use Rattle.node.specs.declared.Node.{Node}
use Rattle.node.specs.declared.Node.TheVariants.{Const, Var, Unary as UnaryNode, Binary as BinaryNode}
use Rattle.node.specs.Sides.{Sides, tree_over}
use Rattle.node.proofs.Sides.{sides_more}
use Rattle.node.specs.Nodes.{node_at, end_at, Packed}
use Rattle.links.specs.Links.{linked_from, linked, Inside, Links, Row}

-- trees over equal sides are equal
pub over : (f g : ℕ → Tree) (left : ℕ) (m : Node) → Sides (λ j. f j ≡ g j) left m → tree_over f left m ≡ tree_over g left m
unfolding Sides
over f g left (Const k) h = refl
over f g left (Var p) h = refl
over f g left (UnaryNode o) h = ap (one o) h
over f g left (BinaryNode o right) h = ap₂ (two o) h.0 h.1

-- ---- a row's tree by its sides'

-- a row after row i
abbrev After : (rows : List ℕ) (i j : ℕ) → Type 0
After rows i j = (i < j) × Inside rows j

pub links_up : {rows : List ℕ} {lo : ℕ} (hi : ℕ) → lo ≤ hi → Links rows lo → Links rows hi
links_up hi l links =
    record {
      few = links.few;
      rises = λ i a b. links.rises i (omega arith) b;
      packed = λ i a b. links.packed i (omega arith) b;
    }

-- a side of a linked row is linked
pub row_side : {rows : List ℕ} {i : ℕ} (j : ℕ) → Row rows i → (i < j) × Inside rows j → Row rows j
row_side j row side = record { links = links_up j (omega arith) row.links; inside = side.1 }

module _ {rows : List ℕ} {lo : ℕ} (links : Links rows lo) where
  -- as many turns as there can be rows after a row are enough
  turns_enough : (k j i : ℕ) → lo ≤ i → Inside rows i → node_limit ≤ i + k → node_limit ≤ i + j
      → linked_from k rows i ≡ linked_from j rows i
  unfolding linked_from
  turns_enough zero j i a b c d = absurd (omega (arith, links.few))
  turns_enough (suc k) zero i a b c d = absurd (omega (arith, links.few))
  turns_enough (suc k) (suc j) i a b c d =
      over (linked_from k rows) (linked_from j rows) (end_at rows i) (node_at rows i)
      (sides_more (After rows i) _ (λ x h. turns_enough k j x (omega arith) h.1 (omega arith) (omega arith))
      (end_at rows i) (node_at rows i) (links.rises i a b))

  pub linked_node : (i : ℕ) → lo ≤ i → Inside rows i → linked rows i ≡ tree_over (linked rows) (end_at rows i) (node_at rows i)
  unfolding linked linked_from
  linked_node i a b =
      over (linked_from (node_limit - 1) rows) (linked rows) (end_at rows i) (node_at rows i)
      (sides_more (After rows i) _ (λ x h. turns_enough (node_limit - 1) node_limit x (omega arith) h.1 (omega arith) (omega arith))
      (end_at rows i) (node_at rows i) (links.rises i a b))

pub row_tree : {rows : List ℕ} {i : ℕ} → Row rows i → linked rows i ≡ tree_over (linked rows) (end_at rows i) (node_at rows i)
row_tree {rows} {i} row = linked_node row.links i (omega arith) row.inside

pub row_rises : {rows : List ℕ} {i : ℕ} → Row rows i → Sides (λ j. (i < j) × Inside rows j) (end_at rows i) (node_at rows i)
row_rises {rows} {i} row = row.links.rises i (omega arith) row.inside

pub row_packed : {rows : List ℕ} {i : ℕ} → Row rows i → Packed rows i
row_packed {rows} {i} row = row.links.packed i (omega arith) row.inside

-- ---- what a row's tree depends on

-- rows' has the words of rows from row lo on
pub record Kept (rows rows' : List ℕ) (lo : ℕ) : Type 0 where
  pub whole : length rows' ≡ length rows
  pub words : (k : ℕ) → 4 * lo ≤ k → get_or rows' k 0 ≡ get_or rows k 0

module _ {rows rows' : List ℕ} {lo : ℕ} (links : Links rows lo) (kept : Kept rows rows' lo) where
  inside_kept : (i : ℕ) → Inside rows' i → Inside rows i
  inside_kept i b = omega (arith, kept.whole)

  node_kept : (i : ℕ) → lo ≤ i → node_at rows' i ≡ node_at rows i
  unfolding node_at
  node_kept i a =
      cc (kept.words (4 * i) (omega arith), kept.words (4 * i + 1) (omega arith), kept.words (4 * i + 2) (omega arith))

  end_kept : (i : ℕ) → lo ≤ i → end_at rows' i ≡ end_at rows i
  unfolding end_at
  end_kept i a = kept.words (4 * i + 3) (omega arith)

  pub links_kept : Links rows' lo
  links_kept =
      record {
        few = omega (arith, kept.whole, links.few);
        rises = λ i a b. rw (node_kept i a, end_kept i a, kept.whole) (links.rises i a (inside_kept i b));
        packed = λ i a b. rw (node_kept i a, kept.words (4 * i) (omega arith), kept.words (4 * i + 1) (omega arith))
            (links.packed i a (inside_kept i b));
      }

  from_kept : (k i : ℕ) → lo ≤ i → Inside rows i → linked_from k rows' i ≡ linked_from k rows i
  unfolding linked_from
  from_kept zero i a b = refl
  from_kept (suc k) i a b =
      rw (node_kept i a, end_kept i a)
      (over (linked_from k rows') (linked_from k rows) (end_at rows i) (node_at rows i)
      (sides_more (After rows i) _ (λ x h. from_kept k x (omega arith) h.1) (end_at rows i) (node_at rows i) (links.rises i a b)))

  pub linked_kept : (i : ℕ) → lo ≤ i → Inside rows i → linked rows' i ≡ linked rows i
  unfolding linked
  linked_kept i a b = from_kept node_limit i a b
