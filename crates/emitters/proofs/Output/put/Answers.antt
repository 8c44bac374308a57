-- The words are stored, and six are counted.
use Rattle.std.proofs.Common.{refl}
use Rattle.emitters.proofs.Emitting.{stored_op}
use Rattle.emitters.proofs.Output.put.Goals as goal

pub returns : goal.returns
returns c o e = stored_op o e refl refl c.put.ensures
