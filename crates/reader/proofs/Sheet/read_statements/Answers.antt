-- Statement k was read by the file's settings, and its row put; the rest is as before.
use Rattle.std.proofs.Common.{◌<◌, ◌∙◌, sym, drop, arith}
use Rattle.std.proofs.lemmas.List.{take-append-drop, set-append_left, length-set}
use Rattle.statement.specs.declared.Row.TheVariants.{Given}
use Rattle.refusal.proofs.Passing.{passed_on}
use Rattle.trees.proofs.Statements.{statement_was_got, statement_was_refused}
use Rattle.reader.proofs.Pairs.{table_inside, pair_inside}
use Rattle.reader.proofs.Statements.{count_by_header, rows_suffice, rows_given}
use Rattle.reader.proofs.Statements.{statements_begin, statements_more, statements_bad, statements_end}
use Rattle.reader.proofs.Sheet.read_statements.Goals as goal

pub slice_bounds-row-items-end : goal.slice_bounds-row-items-end
slice_bounds-row-items-end c =
    let sheet = c.args.self.now in
    omega (arith, rows_suffice sheet.file.now c.requires.0 sheet.read c.args.rows.now c.requires.2)

pub slice_bounds-row-items-end-2 : goal.slice_bounds-row-items-end-2
slice_bounds-row-items-end-2 c =
    let sheet = c.args.self.now in
    sym (rows_given sheet.file.now c.requires.0 sheet.read c.args.rows.now c.requires.2)

pub loop-k-init : goal.loop-k-init
loop-k-init c =
    let sheet = c.args.self.now in
    let counted = count_by_header sheet.file.now sheet.read in
    record {
      given = rows_given sheet.file.now c.requires.0 sheet.read c.args.rows.now c.requires.2;
      on = λ r ws' rows' rest.
          statements_begin sheet.file.now counted c.args.ws.now c.args.rows.now r ws' rows' (rw take-append-drop at rest);
    }

pub read_part-requires : goal.read_part-requires
read_part-requires c =
    let sheet = c.args.self.now in
    let counted = count_by_header sheet.file.now sheet.read in
    let given = c.loop-k.invariant.given in (
      omega (arith, table_inside sheet.file.now c.requires.1, counted, given),
      pair_inside sheet.file.now c.requires.1 c.loop-k.k (omega (arith, counted, given)),
    )

pub returns-in_err-place : goal.returns-in_err-place
returns-in_err-place c =
    let refused = statement_was_refused _ _ _ _ _ c.in_err-place.ensures in
    let below : c.loop-k.k < c.args.self.now.header.count = omega (arith, c.loop-k.invariant.given) in
    rw (passed_on c.from_residual.ensures) (c.loop-k.invariant.on _ _ _ (statements_bad _ _ _ _ _ _ below _ refused _ _))

pub loop-k-preserved : goal.loop-k-preserved
loop-k-preserved c =
    let given = c.loop-k.invariant.given in
    let below : c.loop-k.k < c.args.self.now.header.count = omega (arith, given) in
    let row = Given c.in_ok-place.place c.loop-k.n in
    let others = drop c.args.self.now.header.count c.args.rows.now in
    let put = sym (set-append_left c.loop-k.row-items others c.loop-k.k row (omega (arith, given))) in
    let got = statement_was_got _ _ _ _ _ _ c.in_ok-place.ensures in
    record {
      given = length-set c.loop-k.row-items c.loop-k.k row ∙ given;
      on = λ r ws' rows' rest. c.loop-k.invariant.on r ws' rows' (statements_more _ _ _ _ _ _ below got put r ws' rows' rest);
    }

pub returns : goal.returns
returns c =
    let given = c.loop-k.invariant.given in
    c.loop-k.invariant.on _ c.loop-k.ws _ (statements_end _ _ _ _ _ _ c.args.self.now.read (omega (arith, given)))
