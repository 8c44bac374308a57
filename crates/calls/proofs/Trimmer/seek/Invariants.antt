-- What is found among the rows looked at is found among all, once the chain ends.
use Rattle.limits.specs.Words.{word_of}
use Rattle.calls.proofs.Search.{Searched}
use Rattle.calls.proofs.Trimmer.seek.Given as goal

abbrev pub invariant-loop-link : goal.invariant-loop-link
invariant-loop-link l =
    Searched l.self.nodes.words.now l.self.marks.now.words l.self.rows.now l.i l.key l.self.state.count (word_of l.link) l.found

abbrev pub decreases-loop-link : goal.decreases-loop-link
decreases-loop-link l = word_of l.link
