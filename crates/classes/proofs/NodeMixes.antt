-- The mix of a node from those of its sides. Assumes nothing.
use Rattle.std.proofs.Common.{◌≡◌, ℕ, ◌+◌, refl, ap, ap₂}
use Rattle.definitions.specs.Tree.{Tree}
use Rattle.node.specs.declared.Node.{Node}
use Rattle.node.specs.declared.Node.TheVariants.{Const, Var, Unary, Binary}
use Rattle.node.specs.Nodes.{node_tree}
use Rattle.node.specs.Sides.{Sides}
use Rattle.mix.specs.Mix.{one_mix, two_mix, mix_by, mix, node_mix}

-- from the mixes of its sides' trees a node gets that of its own
pub node_mix_lem : (f : ℕ → ℕ) (T : ℕ → Tree) (P : ℕ → Type 0) → ((a : ℕ) → P a → f a ≡ mix (T a)) →
    (i : ℕ) (x : Node) → Sides P (i + 1) x → node_mix f (i + 1) x ≡ mix (node_tree T i x)
unfolding mix_by Sides
node_mix_lem f T P h i (Const k) s = refl
node_mix_lem f T P h i (Var p) s = refl
node_mix_lem f T P h i (Unary o) s = ap (one_mix o) (h (i + 1) s)
node_mix_lem f T P h i (Binary o r) s = ap₂ (two_mix o) (h (i + 1) s.0) (h r s.1)
