-- A power below 0 has its reciprocal first or last; the other powers are found by the lemmas that the function names.
use Rattle.std.specs.Prelude.{None}
use Rattle.std.proofs.Common.{arith, ap, length, length-append}
use Rattle.operation.specs.Numbers.{unary_number, binary_number}
use Rattle.emitters.proofs.Emitting.{all_emitted, all_then}
use Rattle.emitters.proofs.Powers.{first_ops, last_ops}
use Rattle.emitters.proofs.Output.powi.Goals as goal

-- with the reciprocal first
pub returns-then-stable : goal.returns-then-stable
unfolding unary_number binary_number
returns-then-stable c =
    let a = c.args in
    let negative = first_ops None a.stable a.power a.d a.s c.ranges.power c.unsigned_abs-n.ensures.value in
    let (some, ops) = negative c.if-power-eq0.false c.if-power-gt0.false c.if-stable.true in
    all_emitted ops (all_then c.uni.ensures c.powi_positive-then-stable.ensures)

-- and last
pub powi_positive-requires-else-stable : goal.powi_positive-requires-else-stable
powi_positive-requires-else-stable c =
    let a = c.args in
    let negative = last_ops None a.stable a.power a.d a.s c.ranges.power c.unsigned_abs-n.ensures.value in
    let (some, ops) = negative c.if-power-eq0.false c.if-power-gt0.false c.if-stable.false in
    (omega (arith, rw length-append at (ap length ops)), some)

pub uni-requires-else-stable : goal.uni-requires-else-stable
uni-requires-else-stable c =
    let a = c.args in
    let negative = last_ops None a.stable a.power a.d a.s c.ranges.power c.unsigned_abs-n.ensures.value in
    let (some, ops) = negative c.if-power-eq0.false c.if-power-gt0.false c.if-stable.false in
    omega (arith, rw length-append at (ap length ops))

pub returns-else-stable : goal.returns-else-stable
unfolding unary_number binary_number
returns-else-stable c =
    let a = c.args in
    let negative = last_ops None a.stable a.power a.d a.s c.ranges.power c.unsigned_abs-n.ensures.value in
    let (some, ops) = negative c.if-power-eq0.false c.if-power-gt0.false c.if-stable.false in
    all_emitted ops (all_then c.powi_positive-else-stable.ensures c.uni-else-stable.ensures)
