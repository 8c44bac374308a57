-- What is read is what stands there.
use Rattle.operation.specs.Names.{bytes}
use Rattle.replay.proofs.Recorded.{asks_lent}
use Rattle.replay.proofs.asked.Goals as goal

pub returns : goal.returns
unfolding bytes
returns c =
    asks_lent c.args.text.text.now c.args.file.now c.skip.ensures c.read_number-works.ensures c.skip-2.ensures
    c.read_number-outs.ensures c.skip-3.ensures c.lent.ensures
