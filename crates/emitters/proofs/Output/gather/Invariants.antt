-- The loop's invariant: the digits passed are emitted, the rest are to come.
use Rattle.definitions.specs.Power.{digits, gather_ops}
use Rattle.definitions.specs.Emit.{product_ops}
use Rattle.emitters.proofs.Parts.{Part}
use Rattle.emitters.proofs.Output.gather.Given as goal

abbrev pub invariant-loop-left : goal.invariant-loop-left
invariant-loop-left l =
    let whole = gather_ops (product_ops l.m) l.d l.s (digits l.n) in
    let rest = gather_ops (product_ops l.m) l.d l.last (digits l.left) in
    Part whole rest l.fn.self l.self

abbrev pub decreases-loop-left : goal.decreases-loop-left
decreases-loop-left l = l.left
