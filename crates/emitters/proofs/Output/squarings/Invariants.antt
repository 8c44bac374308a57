-- The loop's invariant: some squarings are emitted, the others are to come.
use Rattle.std.proofs.Common.{◌-◌}
use Rattle.definitions.specs.Power.{square_ops}
use Rattle.definitions.specs.Emit.{product_ops}
use Rattle.emitters.proofs.Parts.{Part}
use Rattle.emitters.proofs.Output.squarings.Given as goal

abbrev pub invariant-loop : goal.invariant-loop
invariant-loop l =
    let whole = square_ops (product_ops l.m) l.d l.t in
    let rest = square_ops (product_ops l.m) l.d (l.t - l.counter) in
    Part whole rest l.fn.self l.self
