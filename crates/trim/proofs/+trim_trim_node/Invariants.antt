-- The nodes yet to come are fewer from a node to its sides.
use Rattle.std.proofs.Common.{◌+◌, ◌-◌, ◌*◌}
use Rattle.trim.proofs.+trim_trim_node.Given as goal

abbrev pub decreases-trim : goal.decreases-trim
decreases-trim l = 2 * (l.t.now.nodes.count - l.i) + 1

abbrev pub decreases-trim_node : goal.decreases-trim_node
decreases-trim_node l = 2 * (l.t.now.nodes.count - l.i)
