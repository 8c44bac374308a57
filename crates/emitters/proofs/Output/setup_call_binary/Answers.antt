-- The four cases of where the arguments are.
use Rattle.std.proofs.Common.{arith, eq-eqb}
use borrow.Author.Tests.{ne_eqb}
use Rattle.emitters.proofs.Emitting.{emitted_then, setup_emitted}
use Rattle.emitters.proofs.Output.setup_call_binary.Goals as goal

pub returns-then-r-eq-LEFT : goal.returns-then-r-eq-LEFT
returns-then-r-eq-LEFT c =
    setup_emitted _ _ (eq-eqb _ _ c.if-l-eq-RIGHT.true) (eq-eqb _ _ c.if-r-eq-LEFT.true) (omega arith) c.fxchg.ensures

pub returns-else-r-eq-LEFT : goal.returns-else-r-eq-LEFT
returns-else-r-eq-LEFT c =
    let moved = emitted_then {k = 2} (omega arith) c.fmov.ensures c.move_to.ensures in
    setup_emitted _ _ (eq-eqb _ _ c.if-l-eq-RIGHT.true) (ne_eqb _ _ c.if-r-eq-LEFT.false) (omega arith) moved

pub returns-then-r-eq-LEFT-2 : goal.returns-then-r-eq-LEFT-2
returns-then-r-eq-LEFT-2 c =
    let moved =
    emitted_then {k = 2} (omega arith) c.fmov-then-r-eq-LEFT-2.ensures c.move_to-then-r-eq-LEFT-2.ensures in
    setup_emitted _ _ (ne_eqb _ _ c.if-l-eq-RIGHT.false) (eq-eqb _ _ c.if-r-eq-LEFT-2.true) (omega arith) moved

pub returns-else-r-eq-LEFT-2 : goal.returns-else-r-eq-LEFT-2
returns-else-r-eq-LEFT-2 c =
    let moved = emitted_then {k = 2} (omega arith) c.move_to-else-r-eq-LEFT-2.ensures c.move_to-else-r-eq-LEFT-2-2.ensures in
    setup_emitted _ _ (ne_eqb _ _ c.if-l-eq-RIGHT.false) (ne_eqb _ _ c.if-r-eq-LEFT-2.false) (omega arith) moved
