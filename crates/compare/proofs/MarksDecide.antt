-- Marks decide: a temporary is the same as one of its own number, and as no node of the sheet. Assumes nothing.
use mathlib.Core.Path.{◌≡◌, refl, sym, ap₂, ◌∙◌}
use mathlib.Core.Bool.{Bool, true, false}
use mathlib.Core.List.{List}
use mathlib.Core.Logic.{◌≢◌}
use Prim.Native.Nat.{ℕ, ◌-◌, ◌<◌, ◌≤◌}
use native.Mathlib.Omega.{arith}
use lib.ListN.{get_or}
use lib.Dec.{eqb}
use borrow.Author.Tests.{eq-eqb, ne_eqb}
use Rattle.limits.specs.Limits.{depth_limit, node_limit}
use Rattle.symbol.specs.declared.Loc.{Loc}
use Rattle.symbol.specs.Place.{same_place}
use Rattle.symbol.proofs.PlacesBack.{same_place_equal, same_place_self}
use Rattle.definitions.specs.Tree.{Tree, variable}
use Rattle.definitions.specs.Same.{same}
use Rattle.node.specs.declared.Node.{Node}
use Rattle.node.specs.declared.Node.TheVariants.{Const, Var, Unary, Binary}
use Rattle.node.specs.Nodes.{node_at, end_at, node_tree}
use Rattle.node.specs.Views.{view, Marked, Fresh}
use Rattle.node.proofs.Nodes.{equal_or, laid_end}
use Rattle.node.proofs.Views.{seen_node, view_unmarked, view_marked}
use Rattle.compare.specs.Comparison.{Comparable, TwoTrees, SameView}

-- ---- trees that may be compared

pub tree_starts : {ws : List ℕ} {a n : ℕ} → Comparable ws a → end_at ws a ≤ n → a < n
tree_starts {ws} {a} h l = omega (arith, laid_end ws depth_limit a h.laid)

pub node_low : {ws : List ℕ} {a : ℕ} → Comparable ws a → a < node_limit
node_low h = tree_starts h h.ends

-- ---- temporaries and nodes

-- places that differ are not the same
pub different : (p q : Loc) → p ≢ q → same_place p q ≡ false
different p q h = go (same_place p q) refl
  where
    go : (b : Bool) → same_place p q ≡ b → b ≡ false
    go true e = absurd (h (same_place_equal p q e))
    go false e = refl

module _ (temporary : ℕ → Loc) (ws ms : List ℕ) (n : ℕ) (f : Fresh temporary ws n) where
  -- a temporary is no node, whichever comes first
  temporary_differs_node : (v : ℕ → Tree) (k b : ℕ) (m : Node) → b < n → node_at ws b ≡ m →
      let t = variable (temporary k) in
      (same t (node_tree v b m) ≡ false) × (same (node_tree v b m) t ≡ false)
  unfolding same
  temporary_differs_node v k b (Const i) h e = (refl, refl)
  temporary_differs_node v k b (Var p) h e =
      let unread = f.unread b k p h e in
      (different (temporary k) p (λ q. unread (sym q)), different p (temporary k) unread)
  temporary_differs_node v k b (Unary o) h e = (refl, refl)
  temporary_differs_node v k b (Binary o r) h e = (refl, refl)

  -- nor is a view with a mark the same as one without
  marked_differs_unmarked : (a b : ℕ) → Comparable ws b → end_at ws b ≤ n → Marked ms a → get_or ms b 0 ≡ 0 →
      let v = view temporary ws ms in
      (same (v a) (v b) ≡ false) × (same (v b) (v a) ≡ false)
  marked_differs_unmarked a b h l k z =
      let v = view temporary ws ms in
      let first = view_marked temporary ws ms a k in
      let second = view_unmarked temporary ws ms b z ∙ seen_node temporary ws ms b h.laid in
      let d = temporary_differs_node v (get_or ms a 0 - 1) b (node_at ws b) (tree_starts h l) refl in
      (ap₂ same first second ∙ d.0, ap₂ same second first ∙ d.1)

  -- two temporaries are told by their numbers
  numbers_tell : (j k : ℕ) → eqb j k ≡ same (variable (temporary j)) (variable (temporary k))
  unfolding same
  numbers_tell j k =
      equal_or j k
      (λ e. rw e (eq-eqb k k refl ∙ sym (same_place_self (temporary k))))
      (λ e. ne_eqb j k e ∙ sym (different _ _ (λ z. e (f.injective j k z))))

-- ---- two nodes with their marks

module _ (ws ms : List ℕ) (a b : ℕ) where
  pub both_marks_decide : {j k : ℕ} → (1 ≤ get_or ms a 0) × (j ≡ get_or ms a 0 - 1) → (1 ≤ get_or ms b 0) × (k ≡ get_or ms b 0 - 1) →
      SameView ws ms a b (eqb j k)
  both_marks_decide first second temporary n f ends-a ends-b =
      let marked-a = view_marked temporary ws ms a (λ z. omega (arith, z, first.0)) in
      let marked-b = view_marked temporary ws ms b (λ z. omega (arith, z, second.0)) in
      rw (first.1, second.1) (numbers_tell temporary ws ms n f _ _ ∙ sym (ap₂ same marked-a marked-b))

  module _ (trees : TwoTrees ws a b) where
    pub first_mark_decides : Marked ms a → get_or ms b 0 ≡ 0 → SameView ws ms a b false
    first_mark_decides k z temporary n f ends-a ends-b =
        sym (marked_differs_unmarked temporary ws ms n f a b trees.second ends-b k z).0

    pub second_mark_decides : get_or ms a 0 ≡ 0 → Marked ms b → SameView ws ms a b false
    second_mark_decides z k temporary n f ends-a ends-b =
        sym (marked_differs_unmarked temporary ws ms n f b a trees.first ends-a k z).1

-- a mark decides
pub ruleset mark_decides = (node_low, first_mark_decides, second_mark_decides)
