-- Heads decide: rows with other heads have other trees, and under one head the sides decide. Assumes nothing.
use mathlib.Core.Path.{◌≡◌, refl, sym, ap₂, ◌∙◌}
use mathlib.Core.Bool.{Bool, true, false}
use mathlib.Core.List.{List}
use Prim.Native.Nat.{ℕ, ◌<◌, min}
use native.Mathlib.Omega.{arith}
use lib.Dec.{eqb}
use Rattle.std.proofs.Common.{Some}
use Rattle.operation.specs.declared.One.{One}
use Rattle.operation.specs.declared.Two.{Two}
use Rattle.definitions.specs.Tree.{Tree}
use Rattle.definitions.specs.Same.{same}
use Rattle.node.specs.declared.Node.{Node}
use Rattle.node.specs.declared.Node.TheVariants.{Const, Var, Unary, Binary}
use Rattle.node.specs.Nodes.{same_head, node_at, end_at}
use Rattle.node.specs.Sides.{Sides, right_of, tree_over}
use Rattle.node.proofs.Sides.{sides_more}
use Rattle.node.proofs.Heads.{node_sized, Paired, head_pairs, other_heads}
use Rattle.node.proofs.Heads.{const_same, var_same, unary_same, binary_same, unary_side, binary_sides}
use Rattle.mix.specs.Mix.{variable_mix, mix}
use Rattle.mix.proofs.SameMixes.{mixes_apart}
use Rattle.links.specs.declared.LinkedRows.{LinkedRows}
use Rattle.links.specs.Links.{Inside, Row, linked}
use Rattle.links.specs.LinkedFrom.{Has}
use Rattle.links.proofs.Links.{row_tree, row_rises}
use Rattle.links.proofs.LinkedFrom.{row_of}
use Rattle.alike.specs.Alike.{Comparable, Pairs, same_sides}

-- other mixes are of other trees
pub other_mixes_differ : (t u : Tree) → eqb (mix t) (mix u) ≡ false → false ≡ same t u
other_mixes_differ t u other = sym (mixes_apart variable_mix t u other)

pub other_heads_differ : {rows : List ℕ} {a b : ℕ} → Row rows a → Row rows b → same_head (node_at rows a) (node_at rows b) ≡ false
    → false ≡ same (linked rows a) (linked rows b)
other_heads_differ {rows} {a} {b} first second other =
    let x = node_at rows a in
    let y = node_at rows b in
    sym (ap₂ same (row_tree first) (row_tree second)
    ∙ other_heads (linked rows) (linked rows) (end_at rows a) (end_at rows b) x y other)

-- the right side is the one that is told
right_told : {y : Node} {s : ℕ} → Some s ≡ right_of y → (o : Two) (r : ℕ) → y ≡ Binary o r → r ≡ s
right_told e o r is = let both = rw is at e in cc both

-- a row after row i
abbrev After : (t : LinkedRows) (i j : ℕ) → Type 0
After t i j = (i < j) × Has t j

-- a side of a linked row is one
linked_side : (t : LinkedRows) {i : ℕ} (j : ℕ) → Has t i → (i < j) × Inside t.rows.now j → After t i j
linked_side t j has side = (side.0, (omega (arith, has.0, side.0), side.1))

-- rows a and b are the nodes x and y, of one head, with the left sides l and k
pub record OneHead (t : LinkedRows) (a b : ℕ) (x y : Node) (l k : ℕ) : Type 0 where
  pub trees : same (linked t.rows.now a) (linked t.rows.now b)
      ≡ same (tree_over (linked t.rows.now) l x) (tree_over (linked t.rows.now) k y)
  pub first : Sides (After t a) l x
  pub second : Sides (After t b) k y
  pub paired : Paired x y

-- the first row was unpacked as x, and told to be z
pub one_head : (t : LinkedRows) {a b : ℕ} {x z : Node} {l k : ℕ} → Comparable t a b
    → same_head (node_at t.rows.now a) (node_at t.rows.now b) ≡ true → x ≡ node_at t.rows.now a → x ≡ z
    → l ≡ end_at t.rows.now a → k ≡ end_at t.rows.now b → OneHead t a b z (node_at t.rows.now b) l k
one_head t {a} {b} pair alike unpacked told left-a left-b =
    let rows = t.rows.now in
    let first = row_of t pair.first in
    let second = row_of t pair.second in
    rw (← told, unpacked, left-a, left-b)
    record {
      trees = ap₂ same (row_tree first) (row_tree second);
      first = sides_more _ _ (λ j h. linked_side t j pair.first h) (end_at rows a) (node_at rows a) (row_rises first);
      second = sides_more _ _ (λ j h. linked_side t j pair.second h) (end_at rows b) (node_at rows b) (row_rises second);
      paired = head_pairs (node_at rows a) (node_at rows b) (node_sized rows a refl) (node_sized rows b refl) alike;
    }

-- two pairs of rows, the second one exchanged
pub exchanged : {t : LinkedRows} {l r x y : ℕ} → Pairs t l r x y → Pairs t l r y x
exchanged p = record { left = p.left; right = p.right; first = p.second; second = p.first }

module _ {t : LinkedRows} {a b l k : ℕ} {y : Node} where
  -- over none: neither a unary nor a binary
  pub leaf_rows_same : (x : Node) → OneHead t a b x y l k → ((o : One) → x ≡ Unary o → ⊥) → ((o : Two) (r : ℕ) → x ≡ Binary o r → ⊥)
      → true ≡ same (linked t.rows.now a) (linked t.rows.now b)
  leaf_rows_same (Const i) h no_unary no_binary = sym (h.trees ∙ const_same (linked t.rows.now) l k h.paired)
  leaf_rows_same (Var p) h no_unary no_binary = sym (h.trees ∙ var_same (linked t.rows.now) l k h.paired)
  leaf_rows_same (Unary o) h no_unary no_binary = absurd (no_unary o refl)
  leaf_rows_same (Binary o r) h no_unary no_binary = absurd (no_binary o r refl)

  -- over one side
  module _ {o : One} (h : OneHead t a b (Unary o) y l k) where
    pub unary_rows : (a < l) × Comparable t l k
    unfolding Sides
    unary_rows = (h.first.0, record { first = h.first.1; second = (unary_side (After t b) k h.paired h.second).1 })

    pub unary_side_decides : {z : Bool} → z ≡ same (linked t.rows.now l) (linked t.rows.now k)
        → z ≡ same (linked t.rows.now a) (linked t.rows.now b)
    unary_side_decides e = e ∙ sym (h.trees ∙ unary_same (linked t.rows.now) l k h.paired)

  -- over two sides, of which s is the second row's right one
  module _ {o : Two} {r s : ℕ} (h : OneHead t a b (Binary o r) y l k) (is : Some s ≡ right_of y) where
    pub binary_rows : (a < min l r) × Pairs t l r k s
    unfolding Sides
    binary_rows =
        let left = h.first.0 in
        let right = h.first.1 in
        let others = binary_sides (After t b) k h.paired (right_told is) h.second in
        (omega arith, record { left = left.1; right = right.1; first = others.0.1; second = others.1.1 })

    pub binary_sides_decide : {z : Bool}
        → z ≡ same_sides o (linked t.rows.now l) (linked t.rows.now r) (linked t.rows.now k) (linked t.rows.now s)
        → z ≡ same (linked t.rows.now a) (linked t.rows.now b)
    binary_sides_decide decided = decided ∙ sym (h.trees ∙ binary_same (linked t.rows.now) l k h.paired (right_told is))
