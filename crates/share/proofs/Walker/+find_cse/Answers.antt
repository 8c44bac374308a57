-- Sides come after their node, so the nodes left are fewer.
use Rattle.std.proofs.Common.{arith, ◌≡◌, ◌<◌, true, false, inl, inr}
use Rattle.node.specs.declared.Node.{Node}
use Rattle.node.specs.Nodes.{tree}
use Rattle.share.proofs.Walking.{walked_low, walked_constant, walked_variable, walked_one, walked_two, matched}
use Rattle.share.proofs.Walker.+find_cse.Goals as goal
use Rattle.share.proofs.Walker.+find_cse.Goals.{then-self-i, else-self-i}

pub returns-then-weight_of-lt6-clause-walked : goal.returns-then-weight_of-lt6-clause-walked
returns-then-weight_of-lt6-clause-walked t c =
    walked_low (tree c.args.self.now.sheet.nodes.words.now c.args.i) c.meet.ensures.walked (omega arith)

pub find_cse-requires : goal.find_cse-requires
find_cse-requires t c =
    let node = matched c.args.self.now.ready.table c.args.i c.requires.1 c.get.ensures c.in-Unary.is in
    let side = node.sides.0 in
    (omega (arith, side), (c.meet.ensures.walked.fits, side.1))

pub bounds-self-i : goal.bounds-self-i
bounds-self-i t c =
    let node = matched c.args.self.now.ready.table c.args.i c.requires.1 c.get.ensures c.in-Binary.is in
    omega (arith, node.sides.0, c.args.self.now.ready.sized)

pub bounds-self-right : goal.bounds-self-right
bounds-self-right t c =
    let node = matched c.args.self.now.ready.table c.args.i c.requires.1 c.get.ensures c.in-Binary.is in
    omega (arith, node.sides.1, c.args.self.now.ready.sized)

-- the larger side
pub find_cse-requires-in-Binary : goal.find_cse-requires-in-Binary
find_cse-requires-in-Binary t c =
    let node = matched c.args.self.now.ready.table c.args.i c.requires.1 c.get.ensures c.in-Binary.is in
    let side : (c.args.i < c.if-self-i.larger.0) × (c.if-self-i.larger.0 < c.args.self.now.sheet.nodes.count) =
    elim c.if-self-i.branch [
      | then-self-i w ↦ rw w.larger-is node.sides.1
      | else-self-i w ↦ rw w.larger-is node.sides.0
    ] in
    (omega (arith, side), (c.meet.ensures.walked.fits, side.1))

-- the other one
pub find_cse-requires-in-Binary-2 : goal.find_cse-requires-in-Binary-2
find_cse-requires-in-Binary-2 t c =
    let node = matched c.args.self.now.ready.table c.args.i c.requires.1 c.get.ensures c.in-Binary.is in
    let side : (c.args.i < c.if-self-i.larger.1) × (c.if-self-i.larger.1 < c.args.self.now.sheet.nodes.count) =
    elim c.if-self-i.branch [
      | then-self-i w ↦ rw w.larger-is node.sides.0
      | else-self-i w ↦ rw w.larger-is node.sides.1
    ] in
    (omega (arith, side), (c.find_cse-in-Binary.ensures.walked.fits, side.1))

pub returns-in-Const-clause-walked : goal.returns-in-Const-clause-walked
returns-in-Const-clause-walked t c =
    let whole = tree c.args.self.now.sheet.nodes.words.now c.args.i in
    let node = λ (m : Node) (e : c.get.result ≡ m). matched c.args.self.now.ready.table c.args.i c.requires.1 c.get.ensures e in
    elim c.in-Const.is [
      | inl w ↦ walked_constant whole c.meet.ensures.walked _ (node _ w.1).whole
      | inr w ↦ walked_variable whole c.meet.ensures.walked _ (node _ w.1).whole
    ]

pub returns-in-Unary-clause-walked : goal.returns-in-Unary-clause-walked
returns-in-Unary-clause-walked t c =
    let node = matched c.args.self.now.ready.table c.args.i c.requires.1 c.get.ensures c.in-Unary.is in
    walked_one (tree c.args.self.now.sheet.nodes.words.now c.args.i) c.meet.ensures.walked _ _ node.whole c.find_cse.ensures.walked

pub returns-after-self-i-clause-walked : goal.returns-after-self-i-clause-walked
returns-after-self-i-clause-walked t c =
    let node = matched c.args.self.now.ready.table c.args.i c.requires.1 c.get.ensures c.in-Binary.is in
    let left = c.args.self.now.ready.ershovs _ (omega arith) node.sides.0.1 in
    let right = c.args.self.now.ready.ershovs _ (omega arith) node.sides.1.1 in
    let two = walked_two (tree c.args.self.now.sheet.nodes.words.now c.args.i) c.meet.ensures.walked _ _ _ node.whole in
    let larger = c.find_cse-in-Binary.ensures.walked in
    let other = c.find_cse-in-Binary-2.ensures.walked in
    elim c.if-self-i.branch [
      | then-self-i w ↦ two true (omega (arith, w.if-self-i.true)) (rw w.larger-is at larger) (rw w.larger-is at other)
      | else-self-i w ↦ two false (omega (arith, w.if-self-i.false)) (rw w.larger-is at larger) (rw w.larger-is at other)
    ]
