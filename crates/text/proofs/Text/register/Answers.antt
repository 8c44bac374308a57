-- A letter, or the number.
use Rattle.std.proofs.Common.{arith}
use Rattle.operation.specs.Names.{bytes}
use Rattle.text.proofs.Texts.{adds_then, register_temp, register_ret, register_number}
use Rattle.text.proofs.Text.register.Goals as goal

pub returns-in-254-clause-adds : goal.returns-in-254-clause-adds
unfolding bytes
returns-in-254-clause-adds c = register_temp _ c.in-254.is c.push.ensures.adds

pub returns-in-255-clause-adds : goal.returns-in-255-clause-adds
unfolding bytes
returns-in-255-clause-adds c = register_ret _ c.in-255.is c.push-in-255.ensures.adds

pub returns-in_default-clause-adds : goal.returns-in_default-clause-adds
unfolding bytes
returns-in_default-clause-adds c =
    register_number _ (λ e. omega arith) (λ e. omega arith) (adds_then c.push-in_default.ensures.adds c.decimal.ensures.adds)
