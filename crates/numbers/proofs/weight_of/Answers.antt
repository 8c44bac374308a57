-- A tree ends as many nodes on as it weighs.
use Rattle.std.proofs.Common.{arith}
use Rattle.limits.specs.Limits.{depth_limit}
use Rattle.node.proofs.Nodes.{laid_room, end_weight}
use Rattle.numbers.proofs.weight_of.Goals as goal

pub end_of-requires : goal.end_of-requires
end_of-requires c = laid_room c.args.ws.now depth_limit c.args.i c.requires

pub overflow_sub-result : goal.overflow_sub-result
overflow_sub-result c = omega (arith, c.end_of.ensures, end_weight c.args.ws.now c.args.i c.requires)

pub returns : goal.returns
returns c = omega (arith, c.end_of.ensures, end_weight c.args.ws.now c.args.i c.requires)
