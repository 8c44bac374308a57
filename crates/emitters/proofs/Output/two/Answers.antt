-- A code, a choice, a power under a modulus, or the set-up of a call and the call.
use Rattle.std.proofs.Common.{arith}
use Rattle.emitters.proofs.Emitting.{emitted_then, two_emitted}
use Rattle.emitters.proofs.PowerLength.{power_room, power_emitted}
use Rattle.emitters.proofs.Output.two.Goals as goal

pub powi_mod-requires : goal.powi_mod-requires
powi_mod-requires c = power_room _ _ _ _ _ c.from.type_inv c.from.ensures _ c.requires

pub returns-in-PowerMod : goal.returns-in-PowerMod
returns-in-PowerMod c =
    let emitted = power_emitted _ _ _ _ _ c.from.type_inv c.from.ensures c.powi_mod.ensures in
    two_emitted _ _ _ c.in-PowerMod.is (omega arith) emitted

pub returns-in-Function2 : goal.returns-in-Function2
returns-in-Function2 c =
    let called = emitted_then {k = 3} (omega arith) c.setup_call_binary.ensures c.call.ensures in
    two_emitted _ _ _ c.in-Function2.is (omega arith) called
