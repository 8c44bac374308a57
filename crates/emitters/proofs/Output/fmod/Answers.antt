-- Four operations, one after another.
use Rattle.std.proofs.Common.{arith}
use Rattle.operation.specs.Numbers.{unary_number, binary_number}
use Rattle.emitters.proofs.Emitting.{emitted_then}
use Rattle.emitters.proofs.Output.fmod.Goals as goal

pub returns : goal.returns
unfolding unary_number binary_number
returns c =
    let floored = emitted_then {k = 2} (omega arith) c.bi.ensures c.uni.ensures in
    let multiplied = emitted_then {k = 3} (omega arith) floored c.bi-2.ensures in
    emitted_then (omega arith) multiplied c.bi-3.ensures
