-- A constant's real part is made, or row j's own node.
use Rattle.linking.proofs.NewRows.{unary_made, constant_alone, other_alone}
use Rattle.std.proofs.Common.{arith}
use Rattle.operation.specs.Numbers.{unary_number}
use Rattle.operation.specs.declared.UnaryCode.TheVariants.{Real}
use Rattle.linking.proofs.alone_row.Goals as goal

pub returns-in-Const : goal.returns-in-Const
unfolding unary_number
returns-in-Const c =
    let real = unary_made c.args.links.now c.requires Real (omega arith) c.unary_row.ensures.node c.unary_row.ensures.left in
    constant_alone c.args.links.now c.requires c.get-node.ensures c.left-left.ensures c.in-Const.is real

pub returns-in_default : goal.returns-in_default
returns-in_default c = other_alone c.args.links.now c.requires c.get-node.ensures c.left-left.ensures c.in_default.not-Const
