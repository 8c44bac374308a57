-- Each turn makes the row of the node before those that are done, and its mix.
use Rattle.std.proofs.Common.{◌≡◌, ◌+◌, ◌-◌, arith, refl}
use Rattle.node.proofs.Heads.{node_sized}
use Rattle.linking.specs.Rows.{Tidied}
use Rattle.linking.proofs.Rows.{sides_linked}
use Rattle.linking.proofs.Turns.{LinkedFrom, next_linked}
use Rattle.linking.proofs.link.Goals as goal

pub node_row-ruled-requires-clause-sized : goal.node_row-ruled-requires-clause-sized
node_row-ruled-requires-clause-sized c = node_sized _ _ c.get.ensures

pub node_row-ruled-requires-clause-sides : goal.node_row-ruled-requires-clause-sides
node_row-ruled-requires-clause-sides c =
    let turn : c.loop-i.i - 1 + 1 ≡ c.loop-i.i = omega arith in
    let done : Tidied c.args.values.now c.args.nodes.now.words.now c.loop-i.rows (c.loop-i.i - 1 + 1) =
    rw turn c.loop-i.invariant.tidied in
    sides_linked (c.loop-i.i - 1) done (omega (arith, c.loop-i.invariant.whole)) c.get.ensures

pub loop-i-preserved : goal.loop-i-preserved
loop-i-preserved c =
    let turn : c.loop-i.i - 1 + 1 ≡ c.loop-i.i = omega arith in
    let done
    : LinkedFrom c.args.values.now c.args.nodes.now.words.now c.loop-i.rows c.loop-i.mixes c.args.nodes.now.count (c.loop-i.i - 1 + 1)
    c.loop-i.changed =
    rw turn c.loop-i.invariant in
    rw c.put.ensures
    (next_linked (c.loop-i.i - 1) c.node_row-ruled.ensures refl c.get.ensures (omega (arith, done.below)) done c.mix_row-mix.ensures)
