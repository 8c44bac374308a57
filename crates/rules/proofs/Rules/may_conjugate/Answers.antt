-- Trees of other mixes are others.
use Rattle.std.proofs.Common.{sym, ◌∙◌}
use Rattle.rules.proofs.Moves.{conjugate_comparable, conjugate_apart}
use Rattle.rules.proofs.Rules.may_conjugate.Goals as goal

pub same_mixes-requires : goal.same_mixes-requires
same_mixes-requires c =
    let both = conjugate_comparable c.requires (sym c.if-is_unary.ensures) c.left.ensures in
    (both.first, both.second)

pub returns-then-is_unary : goal.returns-then-is_unary
returns-then-is_unary c other =
    let apart = sym c.same_mixes.ensures ∙ other in
    sym (conjugate_apart c.requires (sym c.if-is_unary.ensures) c.left.ensures apart)
