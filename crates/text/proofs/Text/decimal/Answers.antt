-- The digits are std's.
use Rattle.std.proofs.Common.{◌∙◌}
use Rattle.text.proofs.Texts.{decimal_lem, adds_as}
use Rattle.text.proofs.Text.decimal.Goals as goal

pub returns-clause-adds : goal.returns-clause-adds
returns-clause-adds c = adds_as (c.format.ensures.text ∙ decimal_lem c.args.n c.ranges.n.fits) c.format.ensures.fits c.push.ensures.adds
