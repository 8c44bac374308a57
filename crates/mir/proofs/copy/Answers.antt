-- The record of one register, a load and a save.
use Rattle.std.proofs.Common.{rules, refl}
use Rattle.mir.proofs.Statements.{copy_written}
use Rattle.mir.proofs.copy.Goals as goal

pub returns : goal.returns
returns c =
    copy_written c.args.h c.args.p refl (search rules) c.temporary.ensures c.need.ensures c.load_var.ensures c.save.ensures
