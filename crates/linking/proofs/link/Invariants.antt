-- The rows from i on are done, with their mixes.
use Rattle.linking.proofs.Turns.{LinkedFrom}
use Rattle.linking.proofs.link.Given as goal

abbrev pub invariant-loop-i : goal.invariant-loop-i
invariant-loop-i l = LinkedFrom l.values l.nodes.words.now l.rows l.mixes l.nodes.count l.i l.changed
