-- The search passes only other trees, and meets a same one if there is any.
use Rattle.index.specs.Paths.{entry}
use Rattle.classes.proofs.Linking.{Seeking}
use Rattle.classes.proofs.NextNode.find.Given as goal

abbrev pub invariant-loop-j : goal.invariant-loop-j
invariant-loop-j l = Seeking l.self.nodes.words.now l.links l.self.i l.self.mix l.search.at l.search.bits

abbrev pub decreases-loop-j : goal.decreases-loop-j
decreases-loop-j l = entry l.links l.search.at
