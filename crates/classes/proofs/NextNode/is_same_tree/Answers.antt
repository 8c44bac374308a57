-- Other mixes are of other trees.
use Rattle.std.proofs.Common.{◌∙◌}
use borrow.Author.Tests.{ne_eqb}
use Rattle.numbers.specs.Filled.{at}
use Rattle.classes.proofs.Linking.{other_mix_differs}
use Rattle.classes.proofs.NextNode.is_same_tree.Goals as goal

pub returns-else-self-j : goal.returns-else-self-j
returns-else-self-j c =
    ne_eqb c.args.self.now.mix (at c.args.self.now.mx.now c.args.j) c.if-self-j.false
    ∙ other_mix_differs c.args.self.now.next c.args.j c.requires.0 c.requires.1 c.if-self-j.false
