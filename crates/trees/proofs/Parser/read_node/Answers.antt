-- Within the limits the node is that of its tag.
use Rattle.std.proofs.Common.{arith}
use Rattle.trees.proofs.Heads.{node_within}
use Rattle.trees.proofs.Parser.read_node.Goals as goal

pub returns : goal.returns
returns c =
    let p = c.args.self.now in
    let within = node_within p.header.stable p.header.first p.input.bytes.now p.input.at p.count c.args.left in
    rw (within (omega arith) (omega arith)) c.head.ensures
