-- So many vectors are counted so far, and the text that is left counts the rest.
use Rattle.std.proofs.Common.{length}
use Rattle.replay.proofs.Counts.{CountsSoFar}
use Rattle.replay.proofs.replay.Given as goal

abbrev pub invariant-loop-text : goal.invariant-loop-text
invariant-loop-text l = CountsSoFar l.all l.t l.text.text.now

abbrev pub decreases-loop-text : goal.decreases-loop-text
decreases-loop-text l = length l.text.text.now
