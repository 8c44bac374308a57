-- The first node's number grows from an evaluation to those of its sides.
use Rattle.std.proofs.Common.{◌+◌, ◌-◌, ◌*◌}
use Rattle.limits.specs.Limits.{node_limit}
use Rattle.evaluator.proofs.Evaluator.+alloc_compile_compile_binary_compile_node.Given as goal

abbrev pub decreases-alloc : goal.decreases-alloc
decreases-alloc l = 4 * (node_limit - l.s.left) + 2

abbrev pub decreases-compile : goal.decreases-compile
decreases-compile l = 4 * (node_limit - l.i) + 1

abbrev pub decreases-compile_binary : goal.decreases-compile_binary
decreases-compile_binary l = 4 * (node_limit - l.s.left) + 3

abbrev pub decreases-compile_node : goal.decreases-compile_node
decreases-compile_node l = 4 * (node_limit - l.i)
