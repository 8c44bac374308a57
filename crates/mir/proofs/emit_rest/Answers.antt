-- What was written in the rest stands in the whole.
use Rattle.std.proofs.Common.{}
use Rattle.mir.proofs.Listing.{rest_written}
use Rattle.mir.proofs.emit_rest.Goals as goal

pub returns : goal.returns
returns c = rest_written c.args.out.now c.args.at _ c.min-from.ensures c.statement_ops.ensures
