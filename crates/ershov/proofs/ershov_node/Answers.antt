-- A node's number comes from those of its sides, which come after it.
use Rattle.std.proofs.Common.{◌<◌, ◌≤◌, rules, arith}
use Rattle.limits.specs.Limits.{node_limit}
use Rattle.node.proofs.Sides.{sides_more}
use Rattle.ershov.specs.Number.{view_number}
use Rattle.ershov.proofs.Numbers.{sides_known, numbered_node}
use Rattle.ershov.proofs.ershov_node.Goals as goal

pub node_ershov-requires : goal.node_ershov-requires
node_ershov-requires c =
    let table = c.args.nodes.now.table in
    sides_more _ _
    (λ j side.
    let inside : j < node_limit = omega (arith, side.inside, table.few) in
    let low : view_number c.args.marks.now.words c.args.es.now j ≤ node_limit = omega (arith, side.numbered.most) in
    search rules)
    _ _ (sides_known table c.requires.inside c.requires.after c.get.ensures)

pub returns : goal.returns
returns c =
    numbered_node c.args.nodes.now.table c.requires.inside c.requires.after c.get.ensures
    (c.node_ershov.ensures (view_number c.args.marks.now.words c.args.es.now) (λ j r given. search rules))
