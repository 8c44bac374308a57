-- What is left after the comments stays the same; each line makes the text shorter.
use Rattle.std.proofs.Common.{◌≡◌, false, length, drop}
use Rattle.vectors.specs.Vectors.{comments_length}
use Rattle.vectors.proofs.Cursor.skip_comments.Given as goal

abbrev pub invariant-loop-self : goal.invariant-loop-self
invariant-loop-self l =
    drop (comments_length false l.self.text.now) l.self.text.now
    ≡ drop (comments_length false l.initial.self.text.now) l.initial.self.text.now

abbrev pub decreases-loop-self : goal.decreases-loop-self
decreases-loop-self l = length l.self.text.now
