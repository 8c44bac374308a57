-- A row's mix comes from those of its sides, which are linked.
use Rattle.std.proofs.Common.{rules, ◌∙◌}
use Rattle.mix.specs.Mix.{mix}
use Rattle.node.proofs.Sides.{sides_more}
use Rattle.links.specs.Links.{linked}
use Rattle.links.specs.LinkedFrom.{Has}
use Rattle.linking.proofs.Mixes.{sides_mix}
use Rattle.linking.proofs.mix_row.Goals as goal

pub mix_node-requires : goal.mix_node-requires
mix_node-requires c =
    sides_more (Has c.args.links.now) _ (λ j side. let from = side.0 in let inside = side.1 in search rules) _ _ c.requires

pub returns : goal.returns
returns c =
    c.mix_node.ensures (λ j. mix (linked c.args.links.now.rows.now j)) (λ j r given. search rules)
    ∙ sides_mix (linked c.args.links.now.rows.now) c.args.row.left c.args.row.node
