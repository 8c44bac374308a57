-- The trailing zeros are the closing squarings, and the digits are those above the lowest that is set.
use Rattle.definitions.specs.Power.{higher}
use Rattle.definitions.specs.Emit.{product_ops}
use Rattle.emitters.proofs.Powers.{positive_emitted}
use Rattle.emitters.proofs.Output.powi_positive.Goals as goal

pub returns : goal.returns
unfolding higher
returns c =
    let a = c.args in
    positive_emitted (product_ops a.m) a.power a.d a.s c.fmov.ensures c.gather.ensures c.squarings.ensures
