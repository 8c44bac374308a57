-- Its one test is the definition's.
use Rattle.std.proofs.Common.{sym}
use Rattle.links.specs.Links.{linked}
use Rattle.operation.specs.declared.UnaryCode.TheVariants.{Recip}
use Rattle.operation.specs.declared.BinaryCode.TheVariants.{Times}
use Rattle.rules.proofs.Chains.{first_fits, divide_chain_lem}
use Rattle.rules.proofs.Moves.{right_argument}
use Rattle.rules.proofs.Rules.divide_rules.Goals as goal

pub returns-then-is_unary : goal.returns-then-is_unary
returns-then-is_unary c =
    let is = sym c.if-is_unary.ensures in
    let chain = divide_chain_lem (linked c.args.self.now.links.rows.now c.args.l) (linked c.args.self.now.links.rows.now c.args.r) in
    right_argument c.requires Times Recip is c.left.ensures (first_fits chain is)
