-- The loop has filled in the numbers of all nodes from i on.
use Rattle.ershov.proofs.Filling.{FilledFrom}
use Rattle.ershov.proofs.ershovs.Given as goal

abbrev pub invariant-loop-i : goal.invariant-loop-i
invariant-loop-i l = FilledFrom l.nodes.words.now l.marks.words l.es l.i l.nodes.count
