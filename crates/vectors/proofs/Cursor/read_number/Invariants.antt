-- Each digit makes the text that is left shorter.
use Rattle.std.proofs.Common.{length}
use Rattle.vectors.proofs.Written.{NumberSoFar}
use Rattle.vectors.proofs.Cursor.read_number.Given as goal

abbrev pub invariant-loop-self : goal.invariant-loop-self
invariant-loop-self l = NumberSoFar l.initial.self.text.now l.n l.self.text.now

abbrev pub decreases-loop-self : goal.decreases-loop-self
decreases-loop-self l = length l.self.text.now
