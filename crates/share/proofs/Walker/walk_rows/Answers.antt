-- A turn walks one statement more.
use Rattle.std.proofs.Common.{refl, ◌∙◌}
use Rattle.statement.proofs.SheetRows.{root_some, root_none}
use Rattle.share.proofs.PassSteps.{walked_none, walked_more}
use Rattle.share.proofs.Walker.walk_rows.Goals as goal
use Rattle.share.proofs.Walker.walk_rows.Goals.{in-Some, in_default}

pub loop-row-init : goal.loop-row-init
loop-row-init c =
    record { lent = (refl, refl, refl); walked = walked_none c.args.self.now.sheet.rows.now c.requires }

pub loop-row-preserved : goal.loop-row-preserved
loop-row-preserved c =
    let inv = c.loop-row.invariant in
    let held = c.args.self.now.sheet.held in
    let h = c.loop-row-test.true in
    elim c.match-root.branch [
      | in-Some w ↦
          let lent = w.find_cse.ensures.lent in
          let walked = rw (root_some held h w.in-Some.ensures) at w.find_cse.ensures.walked in
          rw w.met-is
          record {
            lent = (lent.0 ∙ inv.lent.0, lent.1 ∙ inv.lent.1, lent.2 ∙ inv.lent.2);
            walked = walked_more c.args.self.now.sheet.rows.now c.loop-row.row-index inv.walked walked;
          }
      | in_default w ↦ absurd (root_none held h w.in_default.ensures)
    ]
