-- A row is laid as its node, after its sides.
use Rattle.std.proofs.Common.{arith, inl, inr}
use Rattle.node.specs.Sides.{const, var}
use Rattle.links.proofs.Laying.{row_read, leaf_laid, unary_fits, unary_laid, left_fits_lem, right_fits_lem, binary_laid}
use Rattle.links.proofs.+lay.Goals as goal
use Rattle.links.proofs.+lay.Goals.{in-Const, in-Unary, in-Binary}

pub lay-requires : goal.lay-requires
lay-requires t c =
    let side = unary_fits c.requires (row_read c.requires.row c.unpack-node.ensures c.end_of-left.ensures c.in-Unary.is) in
    (omega (arith, side.0), side.1)

pub lay-mid-requires : goal.lay-mid-requires
lay-mid-requires t c =
    let side = left_fits_lem c.requires (row_read c.requires.row c.unpack-node.ensures c.end_of-left.ensures c.in-Binary.is) in
    (omega (arith, side.0), side.1)

pub lay-requires-in-Binary : goal.lay-requires-in-Binary
lay-requires-in-Binary t c =
    let row = row_read c.requires.row c.unpack-node.ensures c.end_of-left.ensures c.in-Binary.is in
    let side = right_fits_lem c.requires row c.lay-mid.ensures.ends in
    (omega (arith, side.0), side.1)

pub returns : goal.returns
returns t c =
    elim c.match-node.branch [
      | in-Const w ↦
          let put = rw (w.ws-is, w.x-is) at c.put.ensures in
          elim w.in-Const.is [
            | inl k ↦
                let row = row_read c.requires.row c.unpack-node.ensures c.end_of-left.ensures k.1 in
                rw w.x-is (leaf_laid c.requires (const k.0) row (rw k.1 at put))
            | inr p ↦
                let row = row_read c.requires.row c.unpack-node.ensures c.end_of-left.ensures p.1 in
                rw w.x-is (leaf_laid c.requires (var p.0) row (rw p.1 at put))
          ]
      | in-Unary w ↦
          let row = row_read c.requires.row c.unpack-node.ensures c.end_of-left.ensures w.in-Unary.is in
          let put = rw (w.ws-is, w.x-is, w.in-Unary.is) at c.put.ensures in
          rw w.x-is (unary_laid c.requires row w.lay.ensures put)
      | in-Binary w ↦
          let row = row_read c.requires.row c.unpack-node.ensures c.end_of-left.ensures w.in-Binary.is in
          let put = rw (w.ws-is, w.x-is) at c.put.ensures in
          rw w.x-is (binary_laid c.requires row w.lay-mid.ensures w.lay-in-Binary.ensures put)
    ]
