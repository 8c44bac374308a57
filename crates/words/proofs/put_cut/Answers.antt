-- One word is stored after another.
use Rattle.std.proofs.Common.{arith}
use Rattle.words.proofs.StoreRuns.{word_stored}
use Rattle.words.proofs.put_cut.Goals as goal

pub loop-k-preserved : goal.loop-k-preserved
loop-k-preserved g c =
    word_stored c.args.vs c.args.ws.now c.args.at c.loop-k.k 0 (omega arith) c.loop-k.invariant c.store.ensures
