-- An arm writes what its kind's text is made of.
use Rattle.std.proofs.Common.{◌≤◌, get_or, length, arith}
use Rattle.operation.specs.Names.{bytes}
use Rattle.definitions.specs.Text.{op_text}
use Rattle.text.proofs.Texts.{adds_then, adds_as}
use Rattle.text.proofs.ByKind.{op_adds}
use Rattle.operation.proofs.Names.{unary_name_short}
use Rattle.text.proofs.Text.op.Goals as goal

-- const
pub returns-in-LoadConst-clause-adds : goal.returns-in-LoadConst-clause-adds
unfolding bytes op_text
returns-in-LoadConst-clause-adds c =
    let text = adds_then (adds_then c.push.ensures.adds c.register.ensures.adds) c.constant.ensures.adds in
    op_adds c.args.words c.from.ensures c.in-LoadConst.is (omega arith) text

-- load
pub returns-in-LoadVar-clause-adds : goal.returns-in-LoadVar-clause-adds
unfolding bytes op_text
returns-in-LoadVar-clause-adds c =
    let text = adds_then (adds_then c.push-in-LoadVar.ensures.adds c.register-in-LoadVar.ensures.adds) c.place.ensures.adds in
    op_adds c.args.words c.from.ensures c.in-LoadVar.is (omega arith) text

-- save
pub returns-in-Save-clause-adds : goal.returns-in-Save-clause-adds
unfolding bytes op_text
returns-in-Save-clause-adds c =
    let text = adds_then (adds_then c.push-in-Save.ensures.adds c.register-in-Save.ensures.adds) c.place-in-Save.ensures.adds in
    op_adds c.args.words c.from.ensures c.in-Save.is (omega arith) text

-- move
pub returns-in-Mov-clause-adds : goal.returns-in-Mov-clause-adds
unfolding bytes op_text
returns-in-Mov-clause-adds c =
    let text = adds_then (adds_then c.push-in-Mov.ensures.adds c.register-in-Mov.ensures.adds) c.register-in-Mov-2.ensures.adds in
    op_adds c.args.words c.from.ensures c.in-Mov.is (omega arith) text

-- swap
pub returns-in-Xchg-clause-adds : goal.returns-in-Xchg-clause-adds
unfolding bytes op_text
returns-in-Xchg-clause-adds c =
    let text = adds_then (adds_then c.push-in-Xchg.ensures.adds c.register-in-Xchg.ensures.adds) c.register-in-Xchg-2.ensures.adds in
    op_adds c.args.words c.from.ensures c.in-Xchg.is (omega arith) text

-- uni
pub returns-in-Uni-clause-adds : goal.returns-in-Uni-clause-adds
unfolding bytes op_text
returns-in-Uni-clause-adds c =
    let short : length c.unary_name.result.now ≤ 12 = rw c.unary_name.ensures (unary_name_short (get_or c.args.words 1 0)) in
    let named = adds_then c.push-in-Uni.ensures.adds (adds_as c.unary_name.ensures short c.push-in-Uni-2.ensures.adds) in
    let text = adds_then (adds_then named c.register-in-Uni.ensures.adds) c.register-in-Uni-2.ensures.adds in
    op_adds c.args.words c.from.ensures c.in-Uni.is (omega arith) text

-- bi
pub returns-in-Bi-clause-adds : goal.returns-in-Bi-clause-adds
unfolding bytes op_text
returns-in-Bi-clause-adds c =
    let text = adds_then c.math.ensures.adds c.register-in-Bi.ensures.adds in
    op_adds c.args.words c.from.ensures c.in-Bi.is (omega arith) text

-- ifelse
pub returns-in-IfElse-clause-adds : goal.returns-in-IfElse-clause-adds
unfolding bytes op_text
returns-in-IfElse-clause-adds c =
    let first = adds_then (adds_then c.push-in-IfElse.ensures.adds c.register-in-IfElse.ensures.adds) c.register-in-IfElse-2.ensures.adds in
    let text = adds_then (adds_then first c.register-in-IfElse-3.ensures.adds) c.place-in-IfElse.ensures.adds in
    op_adds c.args.words c.from.ensures c.in-IfElse.is (omega arith) text

-- loadmath
pub returns-in-LoadMath-clause-adds : goal.returns-in-LoadMath-clause-adds
unfolding bytes op_text
returns-in-LoadMath-clause-adds c =
    let text = adds_then c.math-in-LoadMath.ensures.adds c.place-in-LoadMath.ensures.adds in
    op_adds c.args.words c.from.ensures c.in-LoadMath.is (omega arith) text

-- constmath
pub returns-in-LoadConstMath-clause-adds : goal.returns-in-LoadConstMath-clause-adds
unfolding bytes op_text
returns-in-LoadConstMath-clause-adds c =
    let text = adds_then c.math-in-LoadConstMath.ensures.adds c.constant-in-LoadConstMath.ensures.adds in
    op_adds c.args.words c.from.ensures c.in-LoadConstMath.is (omega arith) text

-- call
pub returns-in-Call-clause-adds : goal.returns-in-Call-clause-adds
unfolding bytes op_text
returns-in-Call-clause-adds c =
    let function = adds_then (adds_then c.push-in-Call.ensures.adds c.decimal.ensures.adds) c.push-in-Call-2.ensures.adds in
    let text = adds_then function c.decimal-in-Call.ensures.adds in
    op_adds c.args.words c.from.ensures c.in-Call.is (omega arith) text

-- need
pub returns-in-Need-clause-adds : goal.returns-in-Need-clause-adds
unfolding bytes op_text
returns-in-Need-clause-adds c =
    let text = adds_then c.push-in-Need.ensures.adds c.decimal-in-Need.ensures.adds in
    op_adds c.args.words c.from.ensures c.in-Need.is (omega arith) text
