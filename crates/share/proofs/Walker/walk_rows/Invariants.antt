-- After so many turns as many statements are walked, from every class unmet.
use Rattle.share.specs.Walks.{met_of, SameLoans}
use Rattle.share.proofs.PassSteps.{SheetWalked}
use Rattle.share.proofs.Walker.walk_rows.Given as goal

abbrev pub invariant-loop-row : goal.invariant-loop-row
invariant-loop-row l =
    record {
      lent : SameLoans l.initial.met l.met;
      walked : SheetWalked l.self.sheet.nodes.words.now l.self.classes.now l.self.sheet.rows.now l.self.sheet.nodes.count
          l.row-index (met_of l.initial.met) (met_of l.met);
    }
