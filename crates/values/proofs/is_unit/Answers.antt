-- The unit's pattern is compared, and past the table there is none. Assumes nothing.
use Rattle.values.specs.Signs.{is_negative}
use Rattle.values.proofs.Patterns.{unit_read, none_past}
use Rattle.values.proofs.is_unit.Goals as goal

pub returns-then-values-at : goal.returns-then-values-at
returns-then-values-at c = none_past c.args.values.now c.type_inv.values (is_negative c.args.unit) c.args.k c.if-values-at.true

pub returns : goal.returns
returns c =
    rw c.bits.ensures
    (unit_read c.args.values.now c.type_inv.values (is_negative c.args.unit) c.args.k c.number64.result c.number64.ensures)
