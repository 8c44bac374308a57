-- The first node's number grows from a comparison of two nodes to those of their sides.
use Rattle.std.proofs.Common.{◌+◌, ◌-◌, ◌*◌}
use Rattle.limits.specs.Limits.{node_limit}
use Rattle.compare.proofs.Trees.+same_both_same_nodes_same_sides_same_views.Given as goal

abbrev pub decreases-same_both : goal.decreases-same_both
decreases-same_both l = 4 * (node_limit - l.l) + 4

abbrev pub decreases-same_nodes : goal.decreases-same_nodes
decreases-same_nodes l = 4 * (node_limit - l.a) + 2

abbrev pub decreases-same_sides : goal.decreases-same_sides
decreases-same_sides l = 4 * (node_limit - l.l) + 5

abbrev pub decreases-same_views : goal.decreases-same_views
decreases-same_views l = 4 * (node_limit - l.a) + 3
