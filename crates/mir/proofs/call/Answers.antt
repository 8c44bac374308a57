-- A function's node is saved from Ret, another as any tree.
use Rattle.ershov.proofs.Numbers.{known_room}
use Rattle.mir.proofs.Statements.{call_written, other_written}
use Rattle.mir.proofs.call.Goals as goal

pub unpack-requires : goal.unpack-requires
unpack-requires c = known_room c.requires

pub returns-then-is_function : goal.returns-then-is_function
returns-then-is_function c =
    let asked = c.is_function.ensures in
    call_written c.args.evaluator.now c.args.p c.requires c.unpack.ensures asked c.if-is_function.true c.save_tree.ensures

pub returns-else-is_function : goal.returns-else-is_function
returns-else-is_function c =
    let asked = c.is_function.ensures in
    other_written c.args.evaluator.now c.args.p c.requires c.unpack.ensures asked c.if-is_function.false c.assign.ensures
