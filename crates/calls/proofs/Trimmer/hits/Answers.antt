-- A call's row is compared where its key is the one sought, and one with another tree makes another call.
use Rattle.calls.proofs.OneRow.{made_trees, same_call_hits, other_call_misses}
use Rattle.calls.proofs.Trimmer.hits.Goals as goal

pub same_nodes-requires : goal.same_nodes-requires
same_nodes-requires c = rw c.trees.ensures.nodes (made_trees c.requires.sought c.in-Made.is)

pub returns-in-Made : goal.returns-in-Made
returns-in-Made c =
    let same = rw (c.trees.ensures.nodes, c.trees.ensures.marks) at c.same_nodes.ensures in
    same_call_hits c.requires.sought c.in-Made.is _ same c.if-same_nodes.true

pub returns-in_default : goal.returns-in_default
returns-in_default c =
    let other = rw (c.trees.ensures.nodes, c.trees.ensures.marks) at c.same_nodes.ensures in
    other_call_misses c.requires.sought c.in-Made.is _ other c.if-same_nodes.false
