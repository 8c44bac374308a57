-- A square, and a product for a digit that is set.
use Rattle.std.proofs.Common.{}
use Rattle.emitters.proofs.Emitting.{all_then}
use Rattle.emitters.proofs.Output.digit.Goals as goal

pub returns-then-odd : goal.returns-then-odd
returns-then-odd c = rw c.if-odd.true (all_then c.product.ensures c.product-then-odd.ensures)
