-- Heads decide where they differ, and else the classes of the sides.
use Rattle.std.proofs.Common.{arith, refl, inl, inr}
use Rattle.node.specs.declared.Node.TheVariants.{Unary, Binary}
use Rattle.classes.proofs.SidesTell.{heads_apart, OneHead, one_head, const_nodes_same, var_nodes_same}
use Rattle.classes.proofs.SidesTell.{one_inside, one_decides, right_inside, two_inside, two_decide}
use Rattle.classes.proofs.NextNode.is_same_node.Goals as goal
use Rattle.classes.proofs.NextNode.is_same_node.Goals.{In-Unary, In-Binary}

pub returns-then-not-same_heads : goal.returns-then-not-same_heads
returns-then-not-same_heads c =
    heads_apart c.args.self.now.next.nodes c.requires c.same_heads.ensures c.if-not-same_heads.true

pub returns-in-Const : goal.returns-in-Const
returns-in-Const c =
    let ready = c.args.self.now.next.nodes in
    let alike = c.if-not-same_heads.false in
    elim c.in-Const.is [
      | inl h ↦ const_nodes_same (one_head ready c.requires c.same_heads.ensures alike c.get.ensures h.1)
      | inr h ↦ var_nodes_same (one_head ready c.requires c.same_heads.ensures alike c.get.ensures h.1)
    ]

-- over one side
one_side : (c : In-Unary) →
    OneHead c.args.self.now.nodes.words.now c.args.self.now.cs.now c.args.self.now.i c.args.j (Unary c.in-Unary.field-0)
one_side c =
    one_head c.args.self.now.next.nodes c.requires c.same_heads.ensures c.if-not-same_heads.false c.get.ensures c.in-Unary.is

pub bounds-self-b : goal.bounds-self-b
bounds-self-b c = omega (arith, one_inside (one_side (goal.at.bounds-self-b c).In-Unary))

pub returns-in-Unary : goal.returns-in-Unary
returns-in-Unary c = one_decides (one_side (goal.at.returns-in-Unary c).In-Unary) refl

-- over two sides
two_sides : (c : In-Binary) →
    OneHead c.args.self.now.nodes.words.now c.args.self.now.cs.now c.args.self.now.i c.args.j (Binary c.in-Binary.o c.in-Binary.r)
two_sides c =
    one_head c.args.self.now.next.nodes c.requires c.same_heads.ensures c.if-not-same_heads.false c.get.ensures c.in-Binary.is

pub end-s-requires : goal.end-s-requires
end-s-requires c =
    omega (arith, (two_inside (two_sides (goal.at.end-s-requires c).In-Binary)).0, c.args.self.now.next.nodes.table.room)

pub bounds-self-r : goal.bounds-self-r
bounds-self-r c = omega (arith, right_inside (two_sides (goal.at.bounds-self-r c).In-Binary))

pub bounds-self-b-in-Binary : goal.bounds-self-b-in-Binary
bounds-self-b-in-Binary c = omega (arith, (two_inside (two_sides (goal.at.bounds-self-b-in-Binary c).In-Binary)).0)

pub bounds-self-s : goal.bounds-self-s
bounds-self-s c = omega (arith, c.end-s.ensures, (two_inside (two_sides (goal.at.bounds-self-s c).In-Binary)).1)

pub returns-in-Binary : goal.returns-in-Binary
returns-in-Binary c =
    two_decide (two_sides (goal.at.returns-in-Binary c).In-Binary) c.end-s.ensures c.same_sides.ensures
