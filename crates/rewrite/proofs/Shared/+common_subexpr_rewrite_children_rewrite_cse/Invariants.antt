-- What falls is the depth of the tree in hand: a text is as deep as the node that has its mark.
use Rattle.std.proofs.Common.{◌+◌, ◌*◌, get_or}
use Rattle.definitions.specs.Tree.{depth}
use Rattle.node.specs.Nodes.{tree}
use Rattle.rewrite.proofs.Shared.+common_subexpr_rewrite_children_rewrite_cse.Given as goal

abbrev pub decreases-common_subexpr : goal.decreases-common_subexpr
decreases-common_subexpr l = 3 * depth (tree l.self.now.sheet.nodes.words.now (get_or l.self.now.texts.now l.t 0)) + 1

abbrev pub decreases-rewrite_children : goal.decreases-rewrite_children
decreases-rewrite_children l = 3 * depth (tree l.self.now.sheet.nodes.words.now l.i)

abbrev pub decreases-rewrite_cse : goal.decreases-rewrite_cse
decreases-rewrite_cse l = 3 * depth (tree l.self.now.sheet.nodes.words.now l.i) + 2
