-- Its tests are the definition's, in its order: the four of the constants failed.
use Rattle.std.proofs.Common.{sym}
use Rattle.tidying.specs.Units.{units_of}
use Rattle.links.specs.Links.{linked}
use Rattle.operation.specs.declared.UnaryCode.TheVariants.{Recip}
use Rattle.operation.specs.declared.BinaryCode.TheVariants.{Divide}
use Rattle.rules.proofs.Chains.{first_fits, first_fails, times_chain_lem}
use Rattle.rules.proofs.Moves.{left_argument, right_argument}
use Rattle.rules.proofs.Rules.times_rules.Goals as goal

pub returns-then-is_unary : goal.returns-then-is_unary
returns-then-is_unary c =
    let is = sym c.if-is_unary.ensures in
    let chain =
    times_chain_lem (units_of c.args.self.now.values.now) (linked c.args.self.now.links.rows.now c.args.l)
    (linked c.args.self.now.links.rows.now c.args.r) in
    let past_one = first_fails chain (sym c.if-is_const.ensures) in
    let past_two = first_fails past_one (sym c.if-is_const-2.ensures) in
    let past_three = first_fails past_two (sym c.if-is_const-3.ensures) in
    let past_four = first_fails past_three (sym c.if-is_const-4.ensures) in
    left_argument c.requires Divide Recip is c.left.ensures (first_fits past_four is)

pub returns-then-is_unary-2 : goal.returns-then-is_unary-2
returns-then-is_unary-2 c =
    let is = sym c.if-is_unary-2.ensures in
    let chain =
    times_chain_lem (units_of c.args.self.now.values.now) (linked c.args.self.now.links.rows.now c.args.l)
    (linked c.args.self.now.links.rows.now c.args.r) in
    let past_one = first_fails chain (sym c.if-is_const.ensures) in
    let past_two = first_fails past_one (sym c.if-is_const-2.ensures) in
    let past_three = first_fails past_two (sym c.if-is_const-3.ensures) in
    let past_four = first_fails past_three (sym c.if-is_const-4.ensures) in
    let past_five = first_fails past_four (sym c.if-is_unary.ensures) in
    right_argument c.requires Divide Recip is c.left-then-is_unary-2.ensures (first_fits past_five is)
