-- Sides come after their node, so the nodes left are fewer.
use Rattle.std.proofs.Common.{◌-◌}
use Rattle.share.proofs.Walker.+find_cse.Given as goal

abbrev pub decreases-find_cse : goal.decreases-find_cse
decreases-find_cse l = l.self.now.sheet.nodes.count - l.i
