-- A turn puts out one statement of those that are left.
use Rattle.std.proofs.Common.{arith, refl, ◌∙◌}
use Rattle.statement.proofs.SheetRows.{row_root}
use Rattle.rewrite.proofs.Sheets.{underway_starts, underway_goes_on, underway_ends}
use Rattle.rewrite.proofs.Sheets.{statement_ready, rows_fit, turn_puts}
use Rattle.rewrite.proofs.Shared.rewrite_rows.Goals as goal
use Rattle.rewrite.proofs.Shared.rewrite_rows.Goals.{in-Given, in_default}

pub loop-row-init : goal.loop-row-init
loop-row-init c = record { same = refl; long = refl; underway = λ n texts held shared. underway_starts held shared c.requires.1 }

pub rewrite_statement-requires : goal.rewrite_statement-requires
rewrite_statement-requires c =
    let inv = c.loop-row.invariant in
    let held = c.args.self.now.sheet.held in
    let h = c.loop-row-test.true in
    rw (row_root held h c.in-Given.is)
    (statement_ready c.requires.0 inv.long (inv.underway _ _ held c.requires.0.shared) h)

pub loop-row-preserved : goal.loop-row-preserved
loop-row-preserved c =
    let inv = c.loop-row.invariant in
    let h = c.loop-row-test.true in
    elim c.match-row.branch [
      | in-Given w ↦
          let puts = w.rewrite_statement.ensures.puts in
          let turn = turn_puts h w.in-Given.is puts c.args.self.now.sheet.held c.requires.0.shared in
          record {
            same = rw w.out-is (w.rewrite_statement.ensures.same ∙ inv.same);
            long = rw w.out-is (turn.rows ∙ inv.long);
            underway = λ n texts held shared.
                rw w.out-is
                (underway_goes_on held shared h (inv.underway n texts held shared)
                (turn_puts h w.in-Given.is puts held shared));
          }
      | in_default w ↦ absurd (w.in_default.not-Given _ _ (c.args.self.now.sheet.held.given _ h))
    ]

pub returns-clause-eliminates : goal.returns-clause-eliminates
returns-clause-eliminates c =
    λ n texts held shared.
    let inv = c.loop-row.invariant in
    let long = rows_fit c.requires.0 inv.long (inv.underway _ _ c.args.self.now.sheet.held c.requires.0.shared) (omega arith) in
    underway_ends held shared (omega arith) (omega arith) long (inv.underway n texts held shared)
