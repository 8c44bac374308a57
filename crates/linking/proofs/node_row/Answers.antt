-- A binary goes through the rules if one may fit, any other node is a row as it stands.
use Rattle.std.proofs.Common.{rules}
use Rattle.linking.proofs.NewRows.{binary_sides, binary_joins, binary_unruled, other_node, node_joins}
use Rattle.linking.proofs.node_row.Goals as goal

pub may_fit-requires : goal.may_fit-requires
may_fit-requires c =
    let is = rw (rw c.in-Binary-Binary-default.is at c.in-Binary-Binary-default.field-0-is) at c.in-Binary-Binary-default.is in
    binary_sides c.args.links c.args.values.now c.args.node c.args.left c.requires.sides is

pub binary_row-requires : goal.binary_row-requires
binary_row-requires c =
    let is = rw (rw c.in-Binary-Binary-default.is at c.in-Binary-Binary-default.field-0-is) at c.in-Binary-Binary-default.is in
    binary_sides c.args.links c.args.values.now c.args.node c.args.left c.requires.sides is

pub returns-in-Binary-Binary-default : goal.returns-in-Binary-Binary-default
returns-in-Binary-Binary-default c =
    let is = rw (rw c.in-Binary-Binary-default.is at c.in-Binary-Binary-default.field-0-is) at c.in-Binary-Binary-default.is in
    binary_joins c.args.links c.args.values.now c.args.node c.args.left c.requires.sides is c.binary_row.ensures

pub returns-in_default : goal.returns-in_default
returns-in_default c =
    let is = rw (rw c.in-Binary-Binary-default.is at c.in-Binary-Binary-default.field-0-is) at c.in-Binary-Binary-default.is in
    let none = c.may_fit.ensures c.if-may_fit.false in
    let stay = binary_unruled c.args.links c.args.values.now c.args.node c.args.left c.requires.sides is none in
    node_joins c.args.links c.args.values.now c.args.node c.args.left c.requires.sides c.requires.sized stay

pub returns-in_default-2 : goal.returns-in_default-2
returns-in_default-2 c =
    let stay = other_node c.args.links c.args.values.now c.args.node c.args.left c.requires.sides (λ code right e. search rules) in
    node_joins c.args.links c.args.values.now c.args.node c.args.left c.requires.sides c.requires.sized stay
