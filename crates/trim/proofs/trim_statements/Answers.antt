-- The first row may be trimmed, one row is trimmed after another, and with the last the sheet is.
use Rattle.std.proofs.Common.{rules}
use Rattle.trim.proofs.FirstRows.{first_within, first_past, first_row}
use Rattle.trim.proofs.SheetTrimming.{trimmed_first, trimmed_last, row_ready, trimmed_on}
use Rattle.trim.proofs.Handing.{same_twice, row_back}
use Rattle.trim.proofs.trim_statements.Goals as goal

pub loop-row-init : goal.loop-row-init
loop-row-init c = (search rules, trimmed_first c.requires.handed _ c.requires.room c.requires.long c.requires.blank)

pub trim_row-requires : goal.trim_row-requires
trim_row-requires c =
    let handed = c.requires.handed in
    let same = c.loop-row.invariant.0 in
    let l = c.loop-row-test.true in
    rw (same.nodes, same.settings)
    (row_ready handed c.loop-row.invariant.1 (first_within _ handed.long l) (first_row _ handed.long l) c.requires.scratch)

pub loop-row-preserved : goal.loop-row-preserved
loop-row-preserved c =
    let handed = c.requires.handed in
    let same = c.loop-row.invariant.0 in
    let l = c.loop-row-test.true in
    let trimmed = row_back same c.trim_row.ensures.trimmed in (
      same_twice same c.trim_row.ensures.same,
      trimmed_on handed c.loop-row.invariant.1 (first_within _ handed.long l) _ (first_row _ handed.long l) trimmed,
    )

pub returns-clause-trimmed : goal.returns-clause-trimmed
returns-clause-trimmed c =
    let handed = c.requires.handed in
    trimmed_last handed c.loop-row.invariant.1 (first_past _ handed.long c.loop-row-test.false) (search rules) (search rules)
