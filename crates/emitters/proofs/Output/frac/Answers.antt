-- The floor, then x minus that.
use Rattle.std.proofs.Common.{arith}
use Rattle.operation.specs.Numbers.{unary_number, binary_number}
use Rattle.emitters.proofs.Emitting.{emitted_then}
use Rattle.emitters.proofs.Output.frac.Goals as goal

pub returns : goal.returns
unfolding unary_number binary_number
returns c = emitted_then (omega arith) c.uni.ensures c.bi.ensures
