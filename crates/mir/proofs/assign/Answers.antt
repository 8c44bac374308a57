-- The value is in the register of the tree's number.
use Rattle.header.specs.Settings.{temporary_of}
use Rattle.ershov.proofs.Numbers.{known_low}
use Rattle.mir.proofs.Statements.{assign_written}
use Rattle.mir.proofs.assign.Goals as goal

pub ershov_unmarked-register-requires : goal.ershov_unmarked-register-requires
ershov_unmarked-register-requires c = known_low c.requires

pub returns : goal.returns
returns c =
    let e = c.args.evaluator.now in
    let numbered = c.ershov_unmarked-register.ensures.known c.requires in
    assign_written e c.args.p c.args.i (numbered.number (temporary_of e.header)) c.save_tree.ensures
