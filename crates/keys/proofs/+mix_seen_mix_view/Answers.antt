-- The mix of a node meets its contract: one law for each kind of node.
use Rattle.std.proofs.Common.{arith}
use Rattle.limits.specs.Limits.{depth_limit}
use Rattle.node.proofs.Nodes.{laid_room}
use Rattle.mix.proofs.SameMixes.{seed_mixes_one, seed_mixes_two}
use Rattle.compare.proofs.MarksDecide.{node_low}
use Rattle.keys.proofs.Mixing.{leaf_mixed, one_side, one_mixed, left_side, right_side, right_after, two_mixed}
use Rattle.keys.proofs.+mix_seen_mix_view.Goals as goal

pub mix_seen-unpack-node-requires : goal.mix_seen-unpack-node-requires
mix_seen-unpack-node-requires t c = laid_room _ depth_limit _ c.requires.0.laid

pub mix_seen-mix_view-a-requires : goal.mix_seen-mix_view-a-requires
mix_seen-mix_view-a-requires t c =
    let tree = c.requires.0 in
    (omega (arith, node_low tree), (one_side tree c.unpack-node.ensures c.in-Unary.is, c.requires.1))

pub mix_seen-mix_view-a-requires-in-Binary : goal.mix_seen-mix_view-a-requires-in-Binary
mix_seen-mix_view-a-requires-in-Binary t c =
    let tree = c.requires.0 in
    (omega (arith, node_low tree), (left_side tree c.unpack-node.ensures c.in-Binary.is, c.requires.1))

pub mix_seen-mix_view-b-requires : goal.mix_seen-mix_view-b-requires
mix_seen-mix_view-b-requires t c =
    let tree = c.requires.0 in
    let after = right_after tree c.unpack-node.ensures c.in-Binary.is in
    (omega (arith, node_low tree), (right_side tree c.unpack-node.ensures c.in-Binary.is, c.requires.1))

pub mix_seen-returns-in-Const : goal.mix_seen-returns-in-Const
mix_seen-returns-in-Const t c =
    leaf_mixed c.requires.0 c.unpack-node.ensures _ c.seed_of-s.ensures c.in-Const.is c.mix_leaf.ensures

pub mix_seen-returns-in-Unary : goal.mix_seen-returns-in-Unary
mix_seen-returns-in-Unary t c =
    let e = c.in-Unary.is in
    one_mixed c.requires.0 c.unpack-node.ensures _ e c.mix_view-a.ensures (seed_mixes_one c.seed_of-s.ensures _ e c.mix_one.ensures)

pub mix_seen-returns-in-Binary : goal.mix_seen-returns-in-Binary
mix_seen-returns-in-Binary t c =
    let e = c.in-Binary.is in
    two_mixed c.requires.0 c.unpack-node.ensures _ e c.mix_view-a-in-Binary.ensures c.mix_view-b.ensures
    (seed_mixes_two c.seed_of-s.ensures _ _ e c.exchanges_sides-k.ensures c.mix_two.ensures)
