-- Sides come after their row, so fewer rows are left at each turn.
use Rattle.std.proofs.Common.{◌-◌, length}
use Rattle.links.proofs.+lay.Given as goal

abbrev pub decreases-lay : goal.decreases-lay
decreases-lay l = length l.rows.now - l.i
