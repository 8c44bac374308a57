-- After i turns i nodes have their marks, and the later marks are as they were.
use Rattle.share.specs.Sharing.{NodesMarked}
use Rattle.share.proofs.settle.Given as goal

abbrev pub invariant-loop-i : goal.invariant-loop-i
invariant-loop-i l = NodesMarked l.classes l.initial.marks.words l.i l.marks.words
