-- The operations passed have their lines.
use Rattle.std.proofs.Common.{◌*◌}
use Rattle.limits.specs.Limits.{line_limit}
use Rattle.text.specs.Text.{Adds}
use Rattle.text.specs.Line.{lines_of}
use Rattle.text.proofs.Text.lines.Given as goal

abbrev pub invariant-loop-words : goal.invariant-loop-words
invariant-loop-words l = Adds l.initial.self (lines_of l.out l.words-index) (line_limit * l.words-index) l.self
