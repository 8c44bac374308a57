-- x × x, then x × that.
use Rattle.std.proofs.Common.{arith}
use Rattle.operation.specs.Numbers.{binary_number}
use Rattle.emitters.proofs.Emitting.{emitted_then}
use Rattle.emitters.proofs.Output.cube.Goals as goal

pub returns : goal.returns
unfolding binary_number
returns c = emitted_then (omega arith) c.bi.ensures c.bi-2.ensures
