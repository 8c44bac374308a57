-- What is read is the vector's sheet.
use Rattle.std.proofs.Common.{◌+◌, sym, replicate}
use Rattle.limits.specs.Limits.{file_limit}
use Rattle.operation.specs.Names.{bytes}
use Rattle.replay.proofs.Zeros.{equal_words}
use Rattle.replay.proofs.Recorded.{holds_asks}
use Rattle.replay.proofs.holds.Goals as goal

pub returns : goal.returns
unfolding bytes
returns c =
    holds_asks c.args.text.text.now (replicate (file_limit + 1) 0) (sym (equal_words (file_limit + 1) 0)) c.skip.ensures
    c.read_bytes-n.ensures.read c.read_bytes-n.ensures.within.0 c.asked.ensures
