-- Where there is room for all of them they are exchanged at once, else one after another.
use Rattle.std.proofs.Common.{arith, sym}
use Rattle.words.proofs.StoreRuns.{part_stored, sets_out}
use Rattle.words.proofs.put.Goals as goal

pub returns-then-at-n : goal.returns-then-at-n
returns-then-at-n g c = sym (sets_out c.args.vs _ _ c.if-at-n.true)

pub returns-then-n-at : goal.returns-then-n-at
returns-then-n-at g c =
    let stored = c.copy_from_slice.ensures in
    part_stored c.args.ws.now c.args.vs c.args.at _ (omega arith) stored.len stored.after
