-- The kind, the name and the registers.
use Rattle.std.proofs.Common.{arith, ◌≤◌, length}
use Rattle.text.proofs.Texts.{adds_then, adds_within, adds_as}
use Rattle.operation.proofs.Names.{binary_name_short}
use Rattle.text.proofs.Text.math.Goals as goal

pub returns-clause-adds : goal.returns-clause-adds
returns-clause-adds c =
    let short : length c.binary_name.result.now ≤ 12 = rw c.binary_name.ensures (binary_name_short c.args.number) in
    let name = adds_as c.binary_name.ensures short c.push-2.ensures.adds in
    let registers = adds_then (adds_then (adds_then c.push.ensures.adds name) c.register.ensures.adds) c.register-2.ensures.adds in
    adds_within 46 (omega arith) registers
