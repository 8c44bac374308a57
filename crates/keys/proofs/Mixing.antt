-- The mix of a node from those of its sides, as marks show them; and trees with other mixes are not the same. Assumes nothing.
use mathlib.Core.Path.{◌≡◌, refl, sym, ap, ap₂, ◌∙◌}
use mathlib.Core.Bool.{false}
use mathlib.Core.List.{List}
use mathlib.Core.Logic.{◌≢◌, ◌⊎◌, inl, inr}
use Prim.Native.Nat.{ℕ, zero, suc, ◌+◌, ◌-◌, ◌<◌, ◌≤◌}
use native.Mathlib.Omega.{arith}
use lib.ListN.{get_or}
use lib.Dec.{eqb}
use borrow.Author.Tests.{ne_eqb}
use Rattle.limits.specs.Limits.{depth_limit, side_limit, temporary_limit}
use Rattle.symbol.specs.declared.Loc.{Loc}
use Rattle.symbol.proofs.PlacesBack.{same_place_self}
use Rattle.operation.specs.declared.One.{One}
use Rattle.operation.specs.declared.Two.{Two}
use Rattle.node.specs.declared.Node.{Node}
use Rattle.node.specs.declared.Node.TheVariants.{Const, Var, Unary as UnaryNode, Binary as BinaryNode}
use Rattle.node.specs.Nodes.{node_at, end_at, node_tree, Lies}
use Rattle.node.specs.Views.{seen, view, Marked, Fresh}
use Rattle.node.proofs.Nodes.{equal_or, Side, unpacked_sides}
use Rattle.node.proofs.Views.{unpacked_seen, view_marked}
use Rattle.mix.specs.Mix.{node_seed, stirred, constant_mix, variable_mix, temporary_mix, one_mix, two_mix, mix_by}
use Rattle.mix.proofs.SameMixes.{seed_mixes_constant, seed_mixes_variable, mixes_apart}
use Rattle.compare.specs.Comparison.{Comparable, SameSeen}
use Rattle.compare.proofs.HeadsDecide.{side_comparable}
use Rattle.compare.proofs.MarksDecide.{tree_starts, different}
use Rattle.keys.specs.Keys.{place_mix, tree_mix, MarksLow, SeenMix, ViewMix}

-- ---- places

module _ (temporary : ℕ → Loc) where
  temporary_mixed : ((j k : ℕ) → temporary j ≡ temporary k → j ≡ k) → (count k : ℕ) → k < count →
      place_mix temporary count (temporary k) ≡ temporary_mix k
  unfolding place_mix
  temporary_mixed injective zero k l = absurd (omega arith)
  temporary_mixed injective (suc c) k l =
      equal_or k c
      (λ e. rw (e, same_place_self (temporary c)) refl)
      (λ e.
      let apart = different (temporary k) (temporary c) (λ q. e (injective k c q)) in
      rw apart (temporary_mixed injective c k (omega (arith, e))))

  place_mixed : (p : Loc) → ((k : ℕ) → p ≢ temporary k) → (count : ℕ) → place_mix temporary count p ≡ variable_mix p
  unfolding place_mix
  place_mixed p h zero = refl
  place_mixed p h (suc k) = rw (different p (temporary k) (h k)) (place_mixed p h k)

-- ---- a node that was unpacked as m

module _ {ws : List ℕ} {i : ℕ} {r : Node} (h : Comparable ws i) (u : r ≡ node_at ws i) where
  lies : {m : Node} → r ≡ m → Lies (Side ws side_limit i) ws i m
  lies {m} e = unpacked_sides ws i r m u e depth_limit h.laid

  pub one_side : {o : One} → r ≡ UnaryNode o → Comparable ws (i + 1)
  one_side e = side_comparable h (lies e).0

  module _ {o : Two} {right : ℕ} (e : r ≡ BinaryNode o right) where
    pub left_side : Comparable ws (i + 1)
    left_side = side_comparable h (lies e).0

    pub right_side : Comparable ws right
    right_side = side_comparable h (lies e).1

    pub right_after : i < right
    right_after = (lies e).1.after

  module _ (ms : List ℕ) where
    node_mixed : (m : Node) → r ≡ m → {x : ℕ} →
        ((temporary : ℕ → Loc) (n : ℕ) → Fresh temporary ws n → end_at ws i ≤ n →
        x ≡ tree_mix temporary (node_tree (view temporary ws ms) i m)) →
        SeenMix ws ms i x
    node_mixed m e k temporary n f l =
        k temporary n f l ∙ ap (tree_mix temporary) (sym (unpacked_seen temporary ws ms i r m u e h.laid))

    const_mixed : {k x : ℕ} → r ≡ Const k → x ≡ constant_mix k → SeenMix ws ms i x
    unfolding mix_by
    const_mixed {k} e q = node_mixed (Const k) e (λ temporary n f l. q)

    var_mixed : {p : Loc} {x : ℕ} → r ≡ Var p → x ≡ variable_mix p → SeenMix ws ms i x
    unfolding mix_by
    var_mixed {p} e q =
        node_mixed (Var p) e
        (λ temporary n f l.
        q ∙ sym (place_mixed temporary p (λ k. f.unread i k p (tree_starts h l) (sym u ∙ e)) temporary_limit))

    pub leaf_mixed : {s x : ℕ} → s ≡ node_seed r → ((k : ℕ) × (r ≡ Const k)) ⊎ ((p : Loc) × (r ≡ Var p)) →
        x ≡ stirred s → SeenMix ws ms i x
    leaf_mixed seed (inl e) q = const_mixed e.1 (seed_mixes_constant seed e.1 q)
    leaf_mixed seed (inr e) q = var_mixed e.1 (seed_mixes_variable seed e.1 q)

    pub one_mixed : {o : One} {a x : ℕ} → r ≡ UnaryNode o → ViewMix ws ms (i + 1) a → x ≡ one_mix o a → SeenMix ws ms i x
    unfolding mix_by
    one_mixed {o} e k q =
        let side = lies e in
        node_mixed (UnaryNode o) e (λ temporary n f l. q ∙ ap (one_mix o) (k temporary n f (omega (arith, side.1))))

    pub two_mixed : {o : Two} {right a b x : ℕ} → r ≡ BinaryNode o right → ViewMix ws ms (i + 1) a → ViewMix ws ms right b →
        x ≡ two_mix o a b → SeenMix ws ms i x
    unfolding mix_by
    two_mixed {o} {right} e k j q =
        let sides = lies e in
        node_mixed (BinaryNode o right) e
        (λ temporary n f l.
        q ∙ ap₂ (two_mix o) (k temporary n f (omega (arith, sides.0.ends))) (j temporary n f (omega (arith, sides.1.ends))))

-- ---- a node with its own mark

module _ (ws ms : List ℕ) (i : ℕ) where
  pub marked_mixed : {x : ℕ} → MarksLow ms → Marked ms i → x ≡ temporary_mix (get_or ms i 0 - 1) → ViewMix ws ms i x
  unfolding mix_by
  marked_mixed low k q temporary n f l =
      q
      ∙ sym (ap (tree_mix temporary) (view_marked temporary ws ms i k)
      ∙ temporary_mixed temporary f.injective temporary_limit (get_or ms i 0 - 1) (omega (arith, low i, k)))

-- ---- what a search makes of it

pub mixes_differ : (ws ms : List ℕ) (a b : ℕ) {x y : ℕ} → SeenMix ws ms a x → SeenMix ws ms b y → x ≢ y →
    SameSeen ws ms a b false
mixes_differ ws ms a b h k apart temporary n f ends-a ends-b =
    sym
    (mixes_apart (place_mix temporary temporary_limit) (seen temporary ws ms a) (seen temporary ws ms b)
    (ap₂ eqb (sym (h temporary n f ends-a)) (sym (k temporary n f ends-b)) ∙ ne_eqb _ _ apart))
