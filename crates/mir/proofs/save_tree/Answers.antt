-- The record of the need, the tree's operations and the save.
use Rattle.std.proofs.Common.{arith, rules, refl}
use Rattle.header.specs.Settings.{temporary_of}
use Rattle.ershov.proofs.Numbers.{known_low}
use Rattle.mir.proofs.Statements.{saved_written}
use Rattle.mir.proofs.save_tree.Goals as goal

pub ershov_unmarked-requires : goal.ershov_unmarked-requires
ershov_unmarked-requires c = known_low c.requires

pub returns : goal.returns
returns c =
    let e = c.args.evaluator.now in
    let numbered = c.ershov_unmarked.ensures.known c.requires in
    let number = numbered.number (temporary_of e.header) in
    saved_written e.header.fused _ refl (search rules) number (omega (arith, c.requires.within)) c.need.ensures
    c.compile_node.ensures c.save.ensures
