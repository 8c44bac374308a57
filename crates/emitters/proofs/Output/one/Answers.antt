-- A code, a power, or the set-up of a call and the call.
use Rattle.std.proofs.Common.{arith}
use Rattle.emitters.proofs.Emitting.{emitted_then, one_emitted}
use Rattle.emitters.proofs.PowerLength.{power_room, power_emitted}
use Rattle.emitters.proofs.Output.one.Goals as goal

pub powi-requires : goal.powi-requires
powi-requires c = power_room _ _ _ _ _ c.from.type_inv c.from.ensures _ c.requires

pub returns-in-Power : goal.returns-in-Power
returns-in-Power c =
    let emitted = power_emitted _ _ _ _ _ c.from.type_inv c.from.ensures c.powi.ensures in
    one_emitted _ _ c.in-Power.is (omega arith) emitted

pub returns-in-Function1 : goal.returns-in-Function1
returns-in-Function1 c =
    let called = emitted_then {k = 2} (omega arith) c.setup_call_unary.ensures c.call.ensures in
    one_emitted _ _ c.in-Function1.is (omega arith) called
