-- The loop has made the numbers, mixes, index and classes of all nodes from i on.
use Rattle.std.proofs.Common.{arith}
use Rattle.numbers.proofs.ErshovFilling.{sides_low, number_more}
use Rattle.classes.proofs.NextClass.{sides_inside, next_ready, classed_next}
use Rattle.classes.proofs.fill.Goals as goal

pub ershov_of-requires : goal.ershov_of-requires
ershov_of-requires c =
    sides_low c.loop-i.invariant.0 (omega arith) c.args.nodes.now.table c.get-x.ensures

pub mix_of-mix-requires-clause-sides : goal.mix_of-mix-requires-clause-sides
mix_of-mix-requires-clause-sides c = sides_inside (omega arith) c.loop-i.auto.i c.loop-i.invariant.1 c.get-x.ensures

pub invariant_of-next-clause-next : goal.invariant_of-next-clause-next
invariant_of-next-clause-next c =
    next_ready (omega arith) c.loop-i.auto.i c.loop-i.invariant.1 c.get-x.ensures c.mix_of-mix.ensures

pub loop-i-preserved : goal.loop-i-preserved
loop-i-preserved c =
    let filled = c.loop-i.invariant.0 in
    let old = c.loop-i.invariant.1 in (
      number_more filled (omega arith) c.args.nodes.now.table c.get-x.ensures c.ershov_of.ensures,
      classed_next (omega arith) c.loop-i.auto.i old c.get-x.ensures c.mix_of-mix.ensures c.find-class.ensures.class
          c.find-class.ensures.linked,
    )
