-- Its tests are the definition's, in its order.
use Rattle.std.proofs.Common.{sym}
use Rattle.links.specs.Links.{linked}
use Rattle.operation.specs.declared.UnaryCode.TheVariants.{Neg}
use Rattle.operation.specs.declared.BinaryCode.TheVariants.{Minus}
use Rattle.rules.proofs.Chains.{first_fits, first_fails, plus_chain_lem}
use Rattle.rules.proofs.Moves.{left_argument, right_argument}
use Rattle.rules.proofs.Rules.plus_rules.Goals as goal

pub returns-then-is_unary : goal.returns-then-is_unary
returns-then-is_unary c =
    let is = sym c.if-is_unary.ensures in
    let chain = plus_chain_lem (linked c.args.self.now.links.rows.now c.args.l) (linked c.args.self.now.links.rows.now c.args.r) in
    left_argument c.requires Minus Neg is c.left.ensures (first_fits chain is)

pub returns-then-is_unary-2 : goal.returns-then-is_unary-2
returns-then-is_unary-2 c =
    let is = sym c.if-is_unary-2.ensures in
    let chain = plus_chain_lem (linked c.args.self.now.links.rows.now c.args.l) (linked c.args.self.now.links.rows.now c.args.r) in
    let rest = first_fails chain (sym c.if-is_unary.ensures) in
    right_argument c.requires Minus Neg is c.left-then-is_unary-2.ensures (first_fits rest is)
