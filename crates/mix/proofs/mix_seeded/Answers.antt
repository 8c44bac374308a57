-- The node that an arm was chosen by chooses the definition's case.
use Rattle.std.proofs.Common.{inl, inr}
use Rattle.mix.proofs.SameMixes.{seed_mixes_constant, seed_mixes_variable, seed_mixes_one, seed_mixes_two}
use Rattle.mix.proofs.mix_seeded.Goals as goal

pub returns-in-Const : goal.returns-in-Const
returns-in-Const g c f told =
    elim c.in-Const.is [
      | inl h ↦ rw h.1 (seed_mixes_constant c.requires.seed h.1 c.mix_leaf.ensures)
      | inr h ↦ rw h.1 (seed_mixes_variable c.requires.seed h.1 c.mix_leaf.ensures)
    ]

pub returns-in-Unary : goal.returns-in-Unary
returns-in-Unary g c f told =
    rw (c.in-Unary.is, ← told _ _ c.side.ensures) (seed_mixes_one c.requires.seed c.side.result c.in-Unary.is c.mix_one.ensures)

pub returns : goal.returns
returns g c f told =
    rw (c.in-Binary.is, ← told _ _ c.side-in-Binary.ensures, ← told _ _ c.side-in-Binary-2.ensures)
    (seed_mixes_two c.requires.seed _ _ c.in-Binary.is c.exchanges_sides.ensures c.mix_two.ensures)
