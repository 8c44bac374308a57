-- A product, and its remainder under a modulus.
use Rattle.std.proofs.Common.{}
use Rattle.operation.specs.Numbers.{binary_number}
use Rattle.emitters.proofs.Emitting.{all_then}
use Rattle.emitters.proofs.Output.product.Goals as goal

pub returns-in-Some : goal.returns-in-Some
unfolding binary_number
returns-in-Some c = rw c.in-Some.is (all_then c.bi.ensures c.fmod.ensures)
