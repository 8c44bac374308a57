-- The check of the whole table is that of the pairs from k on.
use Rattle.std.proofs.Common.{◌≡◌, ◌+◌, ◌*◌, ◌-◌, length}
use Rattle.definitions.specs.Sheet.{pairs_fit, in_order, pairs_from}
use Rattle.reader.proofs.Sheet.pairs_fit.Given as goal

abbrev pub invariant-loop-k : goal.invariant-loop-k
invariant-loop-k l =
    let file = l.self.file.now in
    pairs_fit file ≡ in_order l.end (length file) (pairs_from file (8 + 4 * l.k) (l.count - l.k))
