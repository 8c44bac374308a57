-- After k turns the operations of k rows stand in the output.
use Rattle.std.proofs.Common.{take}
use Rattle.mir.proofs.Listing.{RowsWritten}
use Rattle.mir.proofs.emit_all.Given as goal

abbrev pub invariant-loop-row : goal.invariant-loop-row
invariant-loop-row l = RowsWritten l.evaluator (take l.row-index l.rows) l.at l.fn.out l.out
