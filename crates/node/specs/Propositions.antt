-- How nodes lie is a proposition, as a ghost field asks.
use Rattle.std.proofs.Common.{ℕ, zero, suc, List}
use Rattle.std.proofs.Props.{props}
use Rattle.limits.specs.Limits.{depth_limit}
use Rattle.node.specs.declared.Node.{Node}
use Rattle.node.specs.declared.Node.TheVariants.{Const, Var, Unary, Binary}
use Rattle.node.specs.Nodes.{node_at, Lies, Laid, Table}

lies_prop : (P : ℕ → Type 0) → ((j : ℕ) → IsProp (P j)) → (ws : List ℕ) (i : ℕ) (x : Node) → IsProp (Lies P ws i x)
lies_prop P p ws i (Const k) = Prim.hlevel props
lies_prop P p ws i (Var a) = Prim.hlevel props
lies_prop P p ws i (Unary o) = Prim.hlevel (p, props)
lies_prop P p ws i (Binary o r) = Prim.hlevel (p, props)

pub laid_prop : (d : ℕ) (ws : List ℕ) (i : ℕ) → IsProp (Laid d ws i)
unfolding Laid
laid_prop zero ws i = Prim.hlevel props
laid_prop (suc d) ws i = Prim.hlevel (lies_prop (Laid d ws) (laid_prop d ws) ws i (node_at ws i), props)

pub table_prop : (ws : List ℕ) (n : ℕ) → IsProp (Table ws n)
table_prop ws n = Prim.hlevel (laid_prop depth_limit ws, props)
