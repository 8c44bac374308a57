-- The mix of a new row from those of its sides, and the mixes with it. Assumes nothing.
use mathlib.Core.Path.{◌≡◌, refl, sym, ap, ◌∙◌}
use mathlib.Core.List.{List}
use Prim.Native.Nat.{ℕ, ◌+◌, ◌<◌, ◌≤◌}
use native.Mathlib.Omega.{arith}
use lib.ListN.{length, get_or, set, length-set}
use lib.Seq.{get_or-set_same, get_or-set_other}
use Rattle.definitions.specs.Tree.{Tree}
use Rattle.node.specs.declared.Node.{Node}
use Rattle.node.specs.declared.Node.TheVariants.{Const, Var, Unary, Binary}
use Rattle.node.proofs.Nodes.{equal_or}
use Rattle.mix.specs.Mix.{mix_by, mix, node_mix}
use Rattle.node.specs.Sides.{tree_over}
use Rattle.links.specs.Links.{linked, Inside}
use Rattle.links.specs.Mixes.{Mixed}
use Rattle.linking.specs.Rows.{Added}

pub sides_mix : (f : ℕ → Tree) (left : ℕ) (x : Node) → node_mix (λ j. mix (f j)) left x ≡ mix (tree_over f left x)
unfolding mix_by
sides_mix f left (Const k) = refl
sides_mix f left (Var p) = refl
sides_mix f left (Unary o) = refl
sides_mix f left (Binary o right) = refl

-- row i is added with the tree t, and m is its mix
module _ {rows rows' mx : List ℕ} {i m : ℕ} {t : Tree} (added : Added rows rows' i t) (inside : Inside rows i) (is : m ≡ mix t)
    (mixed : Mixed rows mx (i + 1)) where
  here : i < length mx
  here = omega (arith, mixed.wide)

  mix_now : (j : ℕ) → i ≤ j → Inside rows' j → get_or (set mx i m) j 0 ≡ mix (linked rows' j)
  mix_now j a b =
      let was_inside : Inside rows j = omega (arith, added.whole) in
      equal_or j i
      (λ e. rw e (get_or-set_same mx i m 0 here ∙ is ∙ sym (ap mix added.tree)))
      (λ e. get_or-set_other mx i j m 0 e ∙ mixed.mixes j (omega (arith, e)) was_inside
      ∙ sym (ap mix (added.others j (omega (arith, e)) was_inside)))

  pub mixed_more : Mixed rows' (set mx i m) i
  mixed_more = record { wide = omega (arith, mixed.wide, added.whole, length-set mx i m); mixes = mix_now }
