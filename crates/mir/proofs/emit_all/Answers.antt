-- Row by row, each is written after those before it.
use Rattle.std.proofs.Common.{}
use Rattle.mir.proofs.Listing.{rows_written_none, rows_written_more}
use Rattle.mir.proofs.emit_all.Goals as goal

pub loop-row-init : goal.loop-row-init
loop-row-init c = rows_written_none c.args.evaluator.now c.args.out.now

pub loop-row-preserved : goal.loop-row-preserved
loop-row-preserved c =
    let rows = c.args.rows.now in
    rows_written_more c.args.evaluator.now rows c.loop-row.row-index c.loop-row-test.true c.loop-row.invariant c.emit_rest-at.ensures
