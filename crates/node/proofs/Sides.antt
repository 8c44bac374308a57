-- What is said of a node's sides. Assumes nothing.
use Rattle.std.proofs.Common.{ℕ, ◌+◌, List}
use Rattle.node.specs.declared.Node.{Node}
use Rattle.node.specs.declared.Node.TheVariants.{Const, Var, Unary, Binary}
use Rattle.node.specs.Nodes.{Lies}
use Rattle.node.specs.Sides.{Sides}

pub sides_more : (P Q : ℕ → Type 0) → ((j : ℕ) → P j → Q j) → (left : ℕ) (x : Node) → Sides P left x → Sides Q left x
unfolding Sides
sides_more P Q h left (Const k) s = s
sides_more P Q h left (Var p) s = s
sides_more P Q h left (Unary o) s = h left s
sides_more P Q h left (Binary o r) s = (h left s.0, h r s.1)

-- of a node that lies in prefix order
pub lies_sides : (P : ℕ → Type 0) (ws : List ℕ) (i : ℕ) (x : Node) → Lies P ws i x → Sides P (i + 1) x
unfolding Sides
lies_sides P ws i (Const k) h = tt
lies_sides P ws i (Var p) h = tt
lies_sides P ws i (Unary o) h = h.0
lies_sides P ws i (Binary o r) h = (h.0, h.1)
