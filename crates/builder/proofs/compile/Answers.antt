-- By what the reading answers.
use Rattle.std.proofs.Common.{sym, arith}
use Rattle.limits.specs.Limits.{statement_limit}
use Rattle.statement.specs.Rows.{empty}
use Rattle.refusal.proofs.Passing.{passed_on}
use Rattle.builder.proofs.FirstStep.{rows_room}
use Rattle.builder.proofs.Bytes.{small_bytes}
use Rattle.builder.proofs.Answers.{refused_compiles, rows_long, rows_counted, rows_held, header_passed, sheet_read, sheet_compiles}
use Rattle.builder.proofs.compile.Goals as goal

pub returns-in_err-header : goal.returns-in_err-header
returns-in_err-header c =
    rw (passed_on c.from_residual.ensures) (refused_compiles _ _ _ _ _ _ c.in_err-header.ensures _ _)

pub slice_bounds-rows-end : goal.slice_bounds-rows-end
slice_bounds-rows-end c =
    let room = rows_room empty statement_limit statement_limit (omega arith) in
    let bytes = small_bytes _ (λ i h. omega (arith, c.type_inv.file i)) in
    rows_long _ _ _ _ _ _ _ c.in_ok-header.ensures bytes room

pub slice_bounds-sheet_in-end : goal.slice_bounds-sheet_in-end
slice_bounds-sheet_in-end c =
    let room = rows_room empty statement_limit statement_limit (omega arith) in
    let bytes = small_bytes _ (λ i h. omega (arith, c.type_inv.file i)) in
    sym (rows_counted _ _ _ _ _ _ _ c.in_ok-header.ensures bytes room)

pub sheet_in-sheet-requires : goal.sheet_in-sheet-requires
sheet_in-sheet-requires c =
    let room = rows_room empty statement_limit statement_limit (omega arith) in
    let bytes = small_bytes _ (λ i h. omega (arith, c.type_inv.file i)) in
    rows_held _ _ _ _ _ _ _ c.in_ok-header.ensures bytes room

pub invariant_of-headed : goal.invariant_of-headed
invariant_of-headed c =
    let room = rows_room empty statement_limit statement_limit (omega arith) in
    let bytes = small_bytes _ (λ i h. omega (arith, c.type_inv.file i)) in
    let counted = rows_counted _ _ _ _ _ _ _ c.in_ok-header.ensures bytes room in
    let passed = header_passed _ _ _ _ _ _ _ c.in_ok-header.ensures bytes room in
    record { counted = rw c.sheet_in-sheet.ensures.rows counted; scratch = passed.0; steps = passed.1 }

pub returns : goal.returns
returns c =
    let room = rows_room empty statement_limit statement_limit (omega arith) in
    let bytes = small_bytes c.args.file.now (λ i h. omega (arith, c.type_inv.file i)) in
    let read = sheet_read _ _ _ _ _ _ _ c.in_ok-header.ensures bytes room in
    let sheet = c.sheet_in-sheet.ensures in
    sheet_compiles c.args.file.now _ read.0 _ (rw (sheet.words, sheet.count, sheet.rows) read.1) _ _ _ c.compile.ensures
