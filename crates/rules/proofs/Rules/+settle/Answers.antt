-- What the first rule makes is what the rules make; where it goes on, the numbers of the sides grow.
use Rattle.std.proofs.Common.{◌<◌, arith, ap, ◌∙◌, Some}
use Rattle.operation.specs.Numbers.{binary_number}
use Rattle.rules.proofs.Moves.{settled_stays, settled_ends, settled_again}
use Rattle.rules.proofs.Rules.+settle.Goals as goal

pub returns-in-None : goal.returns-in-None
returns-in-None t c =
    let byte : binary_number c.args.code < 256 = omega (arith, c.from-number.ensures, c.from-number.type_inv) in
    settled_stays c.args.self.now.values.now c.args.code c.requires c.code_rules.ensures c.in-None.is byte

pub returns-in-Some-Ends : goal.returns-in-Some-Ends
returns-in-Some-Ends t c =
    rw c.in-Some-Ends.field-0-is
    (settled_ends c.args.self.now.values.now c.args.code c.requires c.code_rules.ensures
    (c.in-Some-Ends.is ∙ ap Some c.in-Some-Ends.field-0-is))

pub returns-in-Some-Again : goal.returns-in-Some-Again
returns-in-Some-Again t c =
    settled_again c.args.self.now.values.now c.args.code c.requires c.code_rules.ensures
    (c.in-Some-Again.is ∙ ap Some c.in-Some-Again.field-0-is) (rw c.in-Some-Again.field-0-is at c.settle.ensures)
