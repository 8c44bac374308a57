-- Digit by digit, each is a part of the whole.
use Rattle.std.proofs.Common.{}
use Rattle.emitters.proofs.Parts.{part_none, part_more, part_next, part_whole}
use Rattle.emitters.proofs.Powers.{gather_step, gather_end}
use Rattle.emitters.proofs.Output.gather.Goals as goal

pub loop-left-init : goal.loop-left-init
loop-left-init c = part_none _ _

pub digit-requires : goal.digit-requires
digit-requires c = part_next c.loop-left.invariant _ _ (gather_step _ _ _ _ c.loop-left-test.true) c.requires

pub loop-left-preserved : goal.loop-left-preserved
loop-left-preserved c = part_more c.loop-left.invariant (gather_step _ _ _ _ c.loop-left-test.true) c.digit.ensures

pub returns : goal.returns
returns c = part_whole c.loop-left.invariant (gather_end _ _ _ _ c.loop-left-test.false)
