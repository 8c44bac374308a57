-- The argument of a conjugate is compared.
use Rattle.std.proofs.Common.{sym}
use Rattle.rules.proofs.Moves.{conjugate_comparable, conjugate_told}
use Rattle.rules.proofs.Rules.is_conjugate.Goals as goal

pub same_rows-requires : goal.same_rows-requires
same_rows-requires c = conjugate_comparable c.requires (sym c.if-is_unary.ensures) c.left.ensures

pub returns-then-is_unary : goal.returns-then-is_unary
returns-then-is_unary c = conjugate_told c.requires (sym c.if-is_unary.ensures) c.left.ensures c.same_rows.ensures
