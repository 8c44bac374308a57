-- The numbers of the sides grow at each turn, and are not past the rows.
use Rattle.std.proofs.Common.{◌+◌, ◌-◌, length}
use Rattle.rules.proofs.Rules.+settle.Given as goal

abbrev pub decreases-settle : goal.decreases-settle
decreases-settle l = length l.self.now.links.rows.now + length l.self.now.links.rows.now - (l.l + l.r)
