-- The node's number grows from a node to its sides.
use Rattle.std.proofs.Common.{◌+◌, ◌-◌, ◌*◌}
use Rattle.limits.specs.Limits.{node_limit}
use Rattle.keys.proofs.+mix_seen_mix_view.Given as goal

abbrev pub decreases-mix_view : goal.decreases-mix_view
decreases-mix_view l = 2 * (node_limit - l.i) + 1

abbrev pub decreases-mix_seen : goal.decreases-mix_seen
decreases-mix_seen l = 2 * (node_limit - l.i)
