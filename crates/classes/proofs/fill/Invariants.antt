-- The loop has made the numbers, mixes, index and classes of all nodes from i on.
use Rattle.numbers.proofs.ErshovFilling.{FilledFrom}
use Rattle.classes.proofs.NextClass.{ClassedFrom}
use Rattle.classes.proofs.fill.Given as goal

abbrev pub invariant-loop-i : goal.invariant-loop-i
invariant-loop-i l =
    FilledFrom l.nodes.words.now l.es l.i l.nodes.count
    × ClassedFrom l.nodes.words.now l.cs l.mx l.links l.i l.nodes.count
