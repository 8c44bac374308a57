-- The comparison of two rows meets its contract: one law for each way out.
use Rattle.std.proofs.Common.{◌≡◌, ℕ, arith, refl, sym, ◌∙◌, Some}
use Rattle.node.specs.Nodes.{node_at}
use Rattle.node.specs.Sides.{right_of}
use Rattle.node.specs.declared.Node.TheVariants.{Binary}
use Rattle.links.proofs.LinkedFrom.{row_of}
use Rattle.alike.proofs.HeadsDecide.{other_mixes_differ, other_heads_differ, OneHead, one_head, leaf_rows_same}
use Rattle.alike.proofs.HeadsDecide.{unary_rows, unary_side_decides, binary_rows, exchanged, binary_sides_decide}
use Rattle.alike.proofs.SidesDecide.{straight_decides, exchange_decides, sides_differ}
use Rattle.alike.proofs.+same_both_same_rows.Goals as goal
use Rattle.alike.proofs.+same_both_same_rows.Goals.{same_rows-In-Binary-Some, same_rows-then-not-same_mixes-via-then-not-same_mixes}
use Rattle.alike.proofs.+same_both_same_rows.Goals.{same_rows-then-not-same_mixes-via-else-not-same_mixes+then-not-same_heads}

pub same_rows-returns-then-not-same_mixes : goal.same_rows-returns-then-not-same_mixes
same_rows-returns-then-not-same_mixes t c =
    elim c.then-not-same_mixes.branch [
      | same_rows-then-not-same_mixes-via-then-not-same_mixes w ↦
          other_mixes_differ _ _ (sym c.same_mixes.ensures ∙ w.if-not-same_mixes.true)
      | same_rows-then-not-same_mixes-via-else-not-same_mixes+then-not-same_heads w ↦
          let first = row_of c.args.links.now c.requires.first in
          let second = row_of c.args.links.now c.requires.second in
          other_heads_differ first second (sym w.same_heads.ensures ∙ w.if-not-same_heads.true)
    ]

pub same_rows-returns-in_default-2 : goal.same_rows-returns-in_default-2
same_rows-returns-in_default-2 t c =
    let heads = sym c.same_heads.ensures ∙ c.if-not-same_heads.false in
    let one = one_head c.args.links.now c.requires heads c.get.ensures refl c.left-l.ensures c.left-x.ensures in
    leaf_rows_same c.get.result one c.in_default.not-Unary-0 c.in_default.not-Binary-0

pub same_rows-returns-in-Unary-default : goal.same_rows-returns-in-Unary-default
same_rows-returns-in-Unary-default t c =
    let heads = sym c.same_heads.ensures ∙ c.if-not-same_heads.false in
    let one = one_head c.args.links.now c.requires heads c.get.ensures c.in-Unary-default.is-0 c.left-l.ensures c.left-x.ensures in
    unary_side_decides one c.same_rows.ensures

pub same_rows-same_rows-requires : goal.same_rows-same_rows-requires
same_rows-same_rows-requires t c =
    let heads = sym c.same_heads.ensures ∙ c.if-not-same_heads.false in
    let one = one_head c.args.links.now c.requires heads c.get.ensures c.in-Unary-default.is-0 c.left-l.ensures c.left-x.ensures in
    let side = unary_rows one in
    (omega (arith, side.0, c.requires.first.1), side.1)

-- over two sides
two_heads : (t : ℕ) (c : same_rows-In-Binary-Some t) → OneHead c.args.links.now c.args.a c.args.b
    (Binary c.in-Binary-Some.o c.in-Binary-Some.r) (node_at c.args.links.now.rows.now c.args.b) c.left-l.result c.left-x.result
two_heads t c =
    let heads = sym c.same_heads.ensures ∙ c.if-not-same_heads.false in
    one_head c.args.links.now c.requires heads c.get.ensures c.in-Binary-Some.is-0 c.left-l.ensures c.left-x.ensures

right_side : (t : ℕ) (c : same_rows-In-Binary-Some t) → Some c.in-Binary-Some.y ≡ right_of (node_at c.args.links.now.rows.now c.args.b)
right_side t c = sym c.in-Binary-Some.is-1 ∙ c.right.ensures

pub same_rows-same_both-requires : goal.same_rows-same_both-requires
same_rows-same_both-requires t c =
    let place = (goal.at.same_rows-same_both-requires t c).In-Binary-Some in
    let sides = binary_rows (two_heads t place) (right_side t place) in
    (omega (arith, c.requires.first.1, sides.0), sides.1)

pub same_rows-same_both-requires-then-exchanges_sides : goal.same_rows-same_both-requires-then-exchanges_sides
same_rows-same_both-requires-then-exchanges_sides t c =
    let place = (goal.at.same_rows-same_both-requires-then-exchanges_sides t c).In-Binary-Some in
    let sides = binary_rows (two_heads t place) (right_side t place) in
    (omega (arith, c.requires.first.1, sides.0), exchanged sides.1)

pub same_rows-returns-then-same_both : goal.same_rows-returns-then-same_both
same_rows-returns-then-same_both t c =
    let place = (goal.at.same_rows-returns-then-same_both t c).In-Binary-Some in
    c.if-same_both.true
    ∙ binary_sides_decide (two_heads t place) (right_side t place)
    (straight_decides _ _ _ _ c.in-Binary-Some.o c.if-same_both.true c.same_both.ensures)

pub same_rows-returns-then-exchanges_sides : goal.same_rows-returns-then-exchanges_sides
same_rows-returns-then-exchanges_sides t c =
    let place = (goal.at.same_rows-returns-then-exchanges_sides t c).In-Binary-Some in
    binary_sides_decide (two_heads t place) (right_side t place)
    (exchange_decides _ _ _ _ c.in-Binary-Some.o c.if-same_both.false c.same_both.ensures c.if-exchanges_sides.true
    c.exchanges_sides.ensures c.same_both-then-exchanges_sides.ensures)

pub same_rows-returns-else-exchanges_sides : goal.same_rows-returns-else-exchanges_sides
same_rows-returns-else-exchanges_sides t c =
    let place = (goal.at.same_rows-returns-else-exchanges_sides t c).In-Binary-Some in
    c.if-exchanges_sides.false
    ∙ binary_sides_decide (two_heads t place) (right_side t place)
    (sides_differ _ _ _ _ c.in-Binary-Some.o c.if-same_both.false c.same_both.ensures c.if-exchanges_sides.false
    c.exchanges_sides.ensures)
