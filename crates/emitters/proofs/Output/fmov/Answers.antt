-- Its words are those of the operation.
use Rattle.std.proofs.Common.{}
use Rattle.operation.specs.Kinds.{kind_number}
use Rattle.definitions.specs.Operations.{op_words}
use Rattle.emitters.proofs.Output.fmov.Goals as goal

pub returns : goal.returns
unfolding kind_number op_words
returns c = c.put.ensures _ (cc)
