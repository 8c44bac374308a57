use Rattle.operation.proofs.Numbers.{other_binary}
use Rattle.operation.proofs.BinaryCode.of.Goals as goal

pub returns-in-Err : goal.returns-in-Err
returns-in-Err c = other_binary _
