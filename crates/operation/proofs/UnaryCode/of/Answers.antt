use Rattle.operation.proofs.Numbers.{other_unary}
use Rattle.operation.proofs.UnaryCode.of.Goals as goal

pub returns-in-Err : goal.returns-in-Err
returns-in-Err c = other_unary _
