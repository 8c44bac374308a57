-- What the rules made is the new row.
use Rattle.linking.proofs.NewRows.{node_joined, neg_joined, alone_joined, alone_has, abs_joined}
use Rattle.linking.proofs.binary_row.Goals as goal

pub returns-in-Node : goal.returns-in-Node
returns-in-Node c = node_joined c.args.rules.now c.requires c.settle.ensures c.in-Node.is

pub returns-in-Neg : goal.returns-in-Neg
returns-in-Neg c =
    neg_joined c.args.rules.now c.requires c.settle.ensures c.in-Neg.is c.unary_row.ensures.node c.unary_row.ensures.left

pub alone_row-requires : goal.alone_row-requires
alone_row-requires c = alone_has c.args.rules.now c.requires c.settle.ensures c.in-Alone.is

pub returns-in-Alone : goal.returns-in-Alone
returns-in-Alone c = alone_joined c.args.rules.now c.requires c.settle.ensures c.in-Alone.is c.alone_row.ensures

pub returns-in-Abs2 : goal.returns-in-Abs2
returns-in-Abs2 c =
    abs_joined c.args.rules.now c.requires c.settle.ensures c.in-Abs2.is c.unary_row-in-Abs2.ensures.node
    c.unary_row-in-Abs2.ensures.left
