-- Heads and the classes of the sides tell whether two trees are the same. Assumes nothing.
use mathlib.Core.Path.{◌≡◌, refl, sym, ap₂, ◌∙◌}
use mathlib.Core.Bool.{Bool, true, false}
use mathlib.Core.List.{List}
use Prim.Native.Nat.{ℕ, ◌+◌, ◌<◌}
use native.Mathlib.Omega.{arith}
use lib.ListN.{length}
use lib.Dec.{eqb}
use Rattle.symbol.specs.declared.Loc.{Loc}
use Rattle.operation.specs.declared.One.{One}
use Rattle.operation.specs.declared.Two.{Two}
use Rattle.definitions.specs.Same.{same, exchanges}
use Rattle.node.specs.declared.Node.{Node}
use Rattle.node.specs.declared.Node.TheVariants.{Const, Var, Unary, Binary}
use Rattle.node.specs.Nodes.{same_head, node_at, end_at, tree, Lies}
use Rattle.node.specs.Sides.{Sides, tree_over}
use Rattle.node.proofs.Sides.{lies_sides}
use Rattle.node.proofs.Heads.{Paired, node_sized, head_pairs, other_heads, const_same, var_same, unary_same, binary_same}
use Rattle.node.proofs.Heads.{unary_side, binary_sides, over_next, lies_right}
use Rattle.node.proofs.Nodes.{table_sides}
use Rattle.numbers.specs.Filled.{at}
use Rattle.numbers.proofs.TableSides.{tree_node}
use Rattle.classes.specs.Classes.{same_classes, Comparing}

-- ---- nodes i and j; the first is x

pub record Compared (ws cs : List ℕ) (i j : ℕ) (x : Node) : Type 0 where
  pub ready : Comparing ws cs i
  pub order : i < j
  pub inside : j < length cs
  pub first : x ≡ node_at ws i

-- where a node's sides are
abbrev Later : (i n a : ℕ) → Type 0
Later i n a = (i < a) × (a < n)

module _ {ws cs : List ℕ} {i j : ℕ} {x : Node} (u : Compared ws cs i j x) where
  trees_told : same (tree ws i) (tree ws j) ≡ same (tree_over (tree ws) (i + 1) x) (tree_over (tree ws) (j + 1) (node_at ws j))
  trees_told =
      let t = u.ready.table in
      let first = tree_node t i u.ready.inside ∙ over_next (tree ws) i (node_at ws i) in
      let second = tree_node t j u.inside ∙ over_next (tree ws) j (node_at ws j) in
      rw u.first (ap₂ same first second)

  first_sides : Lies (Later i (length cs)) ws i x
  first_sides = rw u.first (table_sides ws (length cs) u.ready.table i u.ready.inside)

  second_sides : Lies (Later j (length cs)) ws j (node_at ws j)
  second_sides = table_sides ws (length cs) u.ready.table j u.inside

  second_over : Sides (Later j (length cs)) (j + 1) (node_at ws j)
  second_over = lies_sides (Later j (length cs)) ws j (node_at ws j) second_sides

  other_heads_differ : same_head x (node_at ws j) ≡ false → false ≡ same (tree ws i) (tree ws j)
  other_heads_differ h = sym (trees_told ∙ other_heads (tree ws) (tree ws) (i + 1) (j + 1) x (node_at ws j) h)

-- ---- with one head; the first was told to be z

pub record OneHead (ws cs : List ℕ) (i j : ℕ) (z : Node) : Type 0 where
  pub nodes : Compared ws cs i j z
  pub paired : Paired z (node_at ws j)

module _ {ws cs : List ℕ} {i j : ℕ} (ready : Comparing ws cs i) (p : (i < j) × (j < length cs)) where
  compared : {x : Node} → x ≡ node_at ws i → Compared ws cs i j x
  compared e = record { ready = ready; order = p.0; inside = p.1; first = e }

  pub heads_apart : {b : Bool} → b ≡ same_head (node_at ws i) (node_at ws j) → b ≡ false →
      false ≡ same (tree ws i) (tree ws j)
  heads_apart heads apart = other_heads_differ (compared refl) (sym heads ∙ apart)

  pub one_head : {x z : Node} {b : Bool} → b ≡ same_head (node_at ws i) (node_at ws j) → b ≡ true → x ≡ node_at ws i →
      x ≡ z → OneHead ws cs i j z
  one_head heads alike unpacked told =
      let first : node_at ws i ≡ _ = sym unpacked ∙ told in
      let paired = head_pairs (node_at ws i) (node_at ws j) (node_sized ws i refl) (node_sized ws j refl) (sym heads ∙ alike) in
      record { nodes = compared (sym first); paired = rw first at paired }

module _ {ws cs : List ℕ} {i j : ℕ} where
  pub const_nodes_same : {k : ℕ} → OneHead ws cs i j (Const k) → true ≡ same (tree ws i) (tree ws j)
  const_nodes_same h = sym (trees_told h.nodes ∙ const_same (tree ws) (i + 1) (j + 1) h.paired)

  pub var_nodes_same : {p : Loc} → OneHead ws cs i j (Var p) → true ≡ same (tree ws i) (tree ws j)
  var_nodes_same h = sym (trees_told h.nodes ∙ var_same (tree ws) (i + 1) (j + 1) h.paired)

  -- classes of sides tell whether these are the same
  sides_tell : {z : Node} → OneHead ws cs i j z → (a b : ℕ) → Later i (length cs) a → Later j (length cs) b →
      eqb (at cs a) (at cs b) ≡ same (tree ws a) (tree ws b)
  sides_tell h a b la lb =
      let order = h.nodes.order in
      h.nodes.ready.after.tells a b (omega arith) la.1 (omega arith) lb.1

  -- over one side
  module _ {o : One} (h : OneHead ws cs i j (Unary o)) where
    pub one_inside : Later j (length cs) (j + 1)
    one_inside = unary_side (Later j (length cs)) (j + 1) h.paired (second_over h.nodes)

    pub one_decides : {r : Bool} → r ≡ eqb (at cs (i + 1)) (at cs (j + 1)) → r ≡ same (tree ws i) (tree ws j)
    one_decides e =
        e ∙ sides_tell h (i + 1) (j + 1) (first_sides h.nodes).0 one_inside
        ∙ sym (trees_told h.nodes ∙ unary_same (tree ws) (i + 1) (j + 1) h.paired)

  -- over two sides; the right one of the second begins where its left one ends
  module _ {o : Two} {r : ℕ} (h : OneHead ws cs i j (Binary o r)) where
    abbrev s : ℕ
    s = end_at ws (j + 1)

    pub right_inside : Later i (length cs) r
    right_inside = (first_sides h.nodes).1

    right_begins : (p : Two) (w : ℕ) → node_at ws j ≡ Binary p w → w ≡ s
    right_begins = lies_right (Later j (length cs)) ws j (node_at ws j) (second_sides h.nodes)

    pub two_inside : Later j (length cs) (j + 1) × Later j (length cs) s
    two_inside = binary_sides (Later j (length cs)) (j + 1) h.paired right_begins (second_over h.nodes)

    pub two_decide : {e : ℕ} {z : Bool} → e ≡ s →
        z ≡ same_classes (exchanges o) (at cs (i + 1)) (at cs r) (at cs (j + 1)) (at cs e) → z ≡ same (tree ws i) (tree ws j)
    two_decide ends decided =
        let left = (first_sides h.nodes).0 in
        let tells = sides_tell h in
        rw (
          tells (i + 1) (j + 1) left two_inside.0,
          tells r s right_inside two_inside.1,
          tells (i + 1) s left two_inside.1,
          tells r (j + 1) right_inside two_inside.0,
        ) at (rw ends at decided)
        ∙ sym (trees_told h.nodes
        ∙ binary_same (tree ws) (i + 1) (j + 1) h.paired right_begins)
