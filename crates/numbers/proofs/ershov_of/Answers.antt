-- The sides are low, and inside the array.
use Rattle.std.proofs.Common.{◌≤◌, rules, arith}
use Rattle.limits.specs.Limits.{node_limit}
use Rattle.node.proofs.Sides.{sides_more}
use Rattle.numbers.specs.Filled.{at}
use Rattle.numbers.proofs.ershov_of.Goals as goal

pub node_ershov-requires : goal.node_ershov-requires
node_ershov-requires c =
    sides_more _ _
    (λ j side.
    let inside = side.inside in
    let low : at c.args.es.now j ≤ node_limit = omega (arith, side.low) in
    search rules)
    _ _ c.requires
