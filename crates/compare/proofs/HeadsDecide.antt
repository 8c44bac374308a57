-- Heads decide: nodes of other kinds or operators differ, and under one operator the sides decide. Assumes nothing.
use mathlib.Core.Path.{◌≡◌, refl, sym, ap, ap₂, ◌∙◌}
use mathlib.Core.Bool.{Bool, true, false, false≢true}
use mathlib.Core.List.{List}
use Prim.Native.Nat.{ℕ, ◌+◌}
use native.Mathlib.Omega.{arith}
use lib.Dec.{eqb}
use Rattle.limits.specs.Limits.{depth_limit, side_limit}
use Rattle.symbol.specs.declared.Loc.{Loc}
use Rattle.symbol.specs.Place.{same_place}
use Rattle.symbol.proofs.PlacesBack.{same_place_equal, same_place_self}
use Rattle.operation.specs.declared.One.{One}
use Rattle.operation.specs.declared.Two.{Two}
use Rattle.definitions.specs.Tree.{Tree, one, two}
use Rattle.definitions.specs.Same.{same}
use Rattle.definitions.proofs.Comparing.{by_test}
use Rattle.node.specs.declared.Node.{Node}
use Rattle.node.specs.declared.Node.TheVariants.{Const, Var, Unary, Binary}
use Rattle.node.specs.Nodes.{node_at, node_tree, Lies}
use Rattle.node.specs.Views.{seen, view}
use Rattle.node.proofs.Heads.{roots_differ, one_same, two_same}
use Rattle.node.proofs.Nodes.{Side, laid_up, laid_sides}
use Rattle.node.proofs.Views.{seen_node}
use Rattle.compare.specs.Comparison.{Comparable, TwoTrees, FourSides, SameSeen, SameView, SideViews}

pub side_comparable : {ws : List ℕ} {i j : ℕ} → Comparable ws i → Side ws side_limit i j → Comparable ws j
side_comparable {ws} {i} {j} h s =
    record { laid = laid_up ws side_limit depth_limit j s.laid (omega arith); ends = omega (arith, s.ends, h.ends) }

-- ---- a node of each kind, and one of another

module _ (v : ℕ → Tree) (a b : ℕ) where
  const_alone : (i : ℕ) (y : Node) → ((j : ℕ) → y ≡ Const j → ⊥) →
      same (node_tree v a (Const i)) (node_tree v b y) ≡ false
  unfolding same
  const_alone i (Const j) apart = absurd (apart j refl)
  const_alone i (Var q) apart = refl
  const_alone i (Unary u) apart = refl
  const_alone i (Binary u s) apart = refl

  var_alone : (p : Loc) (y : Node) → ((q : Loc) → y ≡ Var q → ⊥) →
      same (node_tree v a (Var p)) (node_tree v b y) ≡ false
  unfolding same
  var_alone p (Const j) apart = refl
  var_alone p (Var q) apart = absurd (apart q refl)
  var_alone p (Unary u) apart = refl
  var_alone p (Binary u s) apart = refl

  unary_alone : (o : One) (y : Node) → ((u : One) → y ≡ Unary u → ⊥) →
      same (node_tree v a (Unary o)) (node_tree v b y) ≡ false
  unfolding same
  unary_alone o (Const j) apart = refl
  unary_alone o (Var q) apart = refl
  unary_alone o (Unary u) apart = absurd (apart u refl)
  unary_alone o (Binary u s) apart = refl

  binary_alone : (o : Two) (r : ℕ) (y : Node) → ((u : Two) (s : ℕ) → y ≡ Binary u s → ⊥) →
      same (node_tree v a (Binary o r)) (node_tree v b y) ≡ false
  unfolding same
  binary_alone o r (Const j) apart = refl
  binary_alone o r (Var q) apart = refl
  binary_alone o r (Unary u) apart = refl
  binary_alone o r (Binary u s) apart = absurd (apart u s refl)

-- ---- two nodes that were unpacked as x and y

pub record Unpacked (ws : List ℕ) (a b : ℕ) (x y : Node) : Type 0 where
  pub trees : TwoTrees ws a b
  pub first : x ≡ node_at ws a
  pub second : y ≡ node_at ws b

-- x was told to be the node z, and y to be w
pub told : {ws : List ℕ} {a b : ℕ} {x y z w : Node} → TwoTrees ws a b → x ≡ node_at ws a → y ≡ node_at ws b →
    x ≡ z → y ≡ w → Unpacked ws a b z w
told trees first second e k = record { trees = trees; first = sym e ∙ first; second = sym k ∙ second }

module _ {ws : List ℕ} {a b : ℕ} where
  seen_nodes : {x y : Node} → Unpacked ws a b x y → (temporary : ℕ → Loc) (ms : List ℕ) → let v = view temporary ws ms in
      same (seen temporary ws ms a) (seen temporary ws ms b) ≡ same (node_tree v a x) (node_tree v b y)
  seen_nodes u temporary ms =
      rw (u.first, u.second)
      (ap₂ same (seen_node temporary ws ms a u.trees.first.laid) (seen_node temporary ws ms b u.trees.second.laid))

  first_sides : {x y : Node} → Unpacked ws a b x y → Lies (Side ws side_limit a) ws a x
  first_sides u = rw u.first (laid_sides ws side_limit a u.trees.first.laid)

  second_sides : {x y : Node} → Unpacked ws a b x y → Lies (Side ws side_limit b) ws b y
  second_sides u = rw u.second (laid_sides ws side_limit b u.trees.second.laid)

  -- ---- of one kind

  pub consts_decide : {i j : ℕ} → Unpacked ws a b (Const i) (Const j) → (ms : List ℕ) → SameSeen ws ms a b (eqb i j)
  unfolding same
  consts_decide u ms temporary n f ends-a ends-b = sym (seen_nodes u temporary ms)

  pub vars_decide : {p q : Loc} {r : Bool} → Unpacked ws a b (Var p) (Var q) → (p ≡ q → r ≡ true) →
      ((p ≡ q → ⊥) → r ≡ false) → (ms : List ℕ) → SameSeen ws ms a b r
  unfolding same
  vars_decide {p} {q} {r} u alike apart ms temporary n f ends-a ends-b =
      by_test (same_place p q)
      (λ e. alike (same_place_equal p q e) ∙ sym (seen_nodes u temporary ms ∙ e))
      (λ e.
      apart (λ k. absurd (false≢true (sym e ∙ ap (same_place p) (sym k) ∙ same_place_self p)))
      ∙ sym (seen_nodes u temporary ms ∙ e))

  module _ {o p : One} (u : Unpacked ws a b (Unary o) (Unary p)) where
    side_first : Side ws side_limit a (a + 1)
    side_first = (first_sides u).0

    side_second : Side ws side_limit b (b + 1)
    side_second = (second_sides u).0

    pub unary_trees : TwoTrees ws (a + 1) (b + 1)
    unary_trees =
        record { first = side_comparable u.trees.first side_first; second = side_comparable u.trees.second side_second }

    pub unary_side_decides : {r : Bool} (ms : List ℕ) → o ≡ p → SameView ws ms (a + 1) (b + 1) r → SameSeen ws ms a b r
    unary_side_decides ms e k temporary n f ends-a ends-b =
        let v = view temporary ws ms in
        k temporary n f (omega (arith, side_first.ends)) (omega (arith, side_second.ends))
        ∙ sym (seen_nodes u temporary ms
        ∙ ap (λ (x : One). same (one o (v (a + 1))) (one x (v (b + 1)))) (sym e)
        ∙ one_same o (v (a + 1)) (v (b + 1)))

    pub unaries_differ : (ms : List ℕ) → (o ≡ p → ⊥) → SameSeen ws ms a b false
    unaries_differ ms apart temporary n f ends-a ends-b =
        let v = view temporary ws ms in
        sym (seen_nodes u temporary ms ∙ roots_differ (one o (v (a + 1))) (one p (v (b + 1))) (λ e. apart (cc)))

  module _ {o p : Two} {r s : ℕ} (u : Unpacked ws a b (Binary o r) (Binary p s)) where
    left_first : Side ws side_limit a (a + 1)
    left_first = (first_sides u).0

    right_first : Side ws side_limit a r
    right_first = (first_sides u).1

    left_second : Side ws side_limit b (b + 1)
    left_second = (second_sides u).0

    right_second : Side ws side_limit b s
    right_second = (second_sides u).1

    pub binary_trees : FourSides ws (a + 1) r (b + 1) s
    binary_trees =
        record {
          left = side_comparable u.trees.first left_first;
          right = side_comparable u.trees.first right_first;
          order = omega (arith, right_first.after);
          first = side_comparable u.trees.second left_second;
          second = side_comparable u.trees.second right_second;
        }

    pub binary_sides_decide : {z : Bool} (ms : List ℕ) → o ≡ p → SideViews ws ms o (a + 1) r (b + 1) s z → SameSeen ws ms a b z
    binary_sides_decide ms e k temporary n f ends-a ends-b =
        let v = view temporary ws ms in
        k temporary n f (omega (arith, left_first.ends)) (omega (arith, right_first.ends)) (omega (arith, left_second.ends))
        (omega (arith, right_second.ends))
        ∙ sym (seen_nodes u temporary ms
        ∙ ap (λ (x : Two). same (two o (v (a + 1)) (v r)) (two x (v (b + 1)) (v s))) (sym e)
        ∙ two_same o (v (a + 1)) (v r) (v (b + 1)) (v s))

    pub binaries_differ : (ms : List ℕ) → (o ≡ p → ⊥) → SameSeen ws ms a b false
    binaries_differ ms apart temporary n f ends-a ends-b =
        let v = view temporary ws ms in
        sym (seen_nodes u temporary ms
        ∙ roots_differ (two o (v (a + 1)) (v r)) (two p (v (b + 1)) (v s)) (λ e. apart (cc)))

  -- ---- of two kinds

  module _ (ms : List ℕ) {y : Node} where
    pub const_differs : {i : ℕ} → Unpacked ws a b (Const i) y → ((j : ℕ) → y ≡ Const j → ⊥) → SameSeen ws ms a b false
    const_differs {i} u apart temporary n f ends-a ends-b =
        sym (seen_nodes u temporary ms ∙ const_alone (view temporary ws ms) a b i y apart)

    pub var_differs : {p : Loc} → Unpacked ws a b (Var p) y → ((q : Loc) → y ≡ Var q → ⊥) → SameSeen ws ms a b false
    var_differs {p} u apart temporary n f ends-a ends-b =
        sym (seen_nodes u temporary ms ∙ var_alone (view temporary ws ms) a b p y apart)

    pub unary_differs : {o : One} → Unpacked ws a b (Unary o) y → ((p : One) → y ≡ Unary p → ⊥) → SameSeen ws ms a b false
    unary_differs {o} u apart temporary n f ends-a ends-b =
        sym (seen_nodes u temporary ms ∙ unary_alone (view temporary ws ms) a b o y apart)

    pub binary_differs : {o : Two} {r : ℕ} → Unpacked ws a b (Binary o r) y → ((p : Two) (s : ℕ) → y ≡ Binary p s → ⊥) →
        SameSeen ws ms a b false
    binary_differs {o} {r} u apart temporary n f ends-a ends-b =
        sym (seen_nodes u temporary ms ∙ binary_alone (view temporary ws ms) a b o r y apart)
