-- Sides come after their row, so fewer rows are left at each turn.
use Rattle.std.proofs.Common.{◌+◌, ◌-◌, ◌*◌, length, min}
use Rattle.alike.proofs.+same_both_same_rows.Given as goal

abbrev pub decreases-same_both : goal.decreases-same_both
decreases-same_both l = 2 * (length l.links.now.rows.now - min l.l l.r) + 1

abbrev pub decreases-same_rows : goal.decreases-same_rows
decreases-same_rows l = 2 * (length l.links.now.rows.now - l.a)
