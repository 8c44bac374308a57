-- That rows are linked is a proposition, as a ghost field asks.
use Rattle.std.proofs.Common.{ℕ, ◌<◌, List}
use Rattle.std.proofs.Props.{props}
use Rattle.node.specs.declared.Node.{Node}
use Rattle.node.specs.declared.Node.TheVariants.{Const, Var, Unary, Binary}
use Rattle.node.specs.Nodes.{node_at, end_at}
use Rattle.node.specs.Sides.{Sides}
use Rattle.links.specs.Links.{Inside, Links}

sides_prop : (P : ℕ → Type 0) → ((j : ℕ) → IsProp (P j)) → (left : ℕ) (x : Node) → IsProp (Sides P left x)
unfolding Sides
sides_prop P p left (Const k) = Prim.hlevel props
sides_prop P p left (Var a) = Prim.hlevel props
sides_prop P p left (Unary o) = Prim.hlevel (p, props)
sides_prop P p left (Binary o r) = Prim.hlevel (p, props)

rises_prop : (rows : List ℕ) (i : ℕ) → IsProp (Sides (λ j. (i < j) × Inside rows j) (end_at rows i) (node_at rows i))
rises_prop rows i = sides_prop (λ j. (i < j) × Inside rows j) (λ j. Prim.hlevel props) (end_at rows i) (node_at rows i)

pub links_prop : (rows : List ℕ) (lo : ℕ) → IsProp (Links rows lo)
links_prop rows lo = Prim.hlevel (rises_prop rows, props)
