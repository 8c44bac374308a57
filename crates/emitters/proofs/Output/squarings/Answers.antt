-- Squaring by squaring, each is a part of the whole.
use Rattle.std.proofs.Common.{arith, ◌-◌, ◌≡◌}
use Rattle.emitters.proofs.Parts.{part_none, part_more, part_next, part_whole}
use Rattle.emitters.proofs.Powers.{square_step, square_end}
use Rattle.emitters.proofs.Output.squarings.Goals as goal

pub loop-init : goal.loop-init
loop-init c = let all : c.args.t - 0 ≡ c.args.t = omega arith in rw all (part_none _ _)

pub product-requires : goal.product-requires
product-requires c = part_next c.loop.invariant _ _ (square_step _ _ _ _ c.loop-test.true) c.requires

pub loop-preserved : goal.loop-preserved
loop-preserved c = part_more c.loop.invariant (square_step _ _ _ _ c.loop-test.true) c.product.ensures

pub returns : goal.returns
returns c = part_whole c.loop.invariant (square_end _ _ _ _ c.loop-test.false)
