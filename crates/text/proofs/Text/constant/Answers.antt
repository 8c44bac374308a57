-- The letter, and the number after it.
use Rattle.operation.specs.Names.{bytes}
use Rattle.text.proofs.Texts.{adds_then}
use Rattle.text.proofs.Text.constant.Goals as goal

pub returns-clause-adds : goal.returns-clause-adds
unfolding bytes
returns-clause-adds c = adds_then c.push.ensures.adds c.decimal.ensures.adds
