-- The sides are inside the array.
use Rattle.std.proofs.Common.{rules}
use Rattle.node.proofs.Sides.{sides_more}
use Rattle.classes.proofs.mix_of.Goals as goal

pub mix_seeded-requires-clause-sides : goal.mix_seeded-requires-clause-sides
mix_seeded-requires-clause-sides c = sides_more _ _ (λ j inside. search rules) _ _ c.requires.sides
