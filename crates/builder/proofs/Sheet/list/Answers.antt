-- Check 9 passes or refuses, what is emitted is the definition's list, and so is check 10.
use Rattle.std.proofs.Common.{refl}
use Rattle.evaluator.specs.declared.Evaluator.{Evaluator}
use Rattle.builder.proofs.SecondStep.{marks_fit, rows_emit, too_many, too_long, all_listed}
use Rattle.builder.proofs.Sheet.list.Goals as goal

pub returns-then-header-s-gt-INDEXES : goal.returns-then-header-s-gt-INDEXES
returns-then-header-s-gt-INDEXES c = too_many _ _ _ c.requires _ _ c.if-header-s-gt-INDEXES.true

pub trees-trees-requires : goal.trees-trees-requires
trees-trees-requires c = c.requires.numbers

pub invariant_of-evaluator : goal.invariant_of-evaluator
invariant_of-evaluator c =
    let indexed = marks_fit _ _ _ c.requires c.if-header-s-gt-INDEXES.false in
    record { indexed = rw c.trees-trees.ensures.marks indexed }

pub rows-requires : goal.rows-requires
rows-requires c = c.requires.put.long

pub emit_all-ops-requires : goal.emit_all-ops-requires
emit_all-ops-requires c =
    let trees = c.trees-trees.ensures in
    let below = c.if-header-s-gt-INDEXES.false in
    let fit = marks_fit _ _ _ c.requires below in
    let evaluator : Evaluator =
    record { trees = c.trees-trees.result; header = c.args.self.now.header; indexed = rw trees.marks fit } in
    rw c.rows.ensures (rows_emit _ _ _ c.requires evaluator refl trees.nodes below)

pub returns-then-out-ops : goal.returns-then-out-ops
returns-then-out-ops c =
    let listed = rw (c.trees-trees.ensures.nodes, c.trees-trees.ensures.marks, c.rows.ensures) at c.emit_all-ops.ensures in
    too_long _ _ _ c.requires _ _ c.if-header-s-gt-INDEXES.false _ listed c.if-out-ops.true

pub returns : goal.returns
returns c =
    let listed = rw (c.trees-trees.ensures.nodes, c.trees-trees.ensures.marks, c.rows.ensures) at c.emit_all-ops.ensures in
    all_listed _ _ _ c.requires _ _ c.if-header-s-gt-INDEXES.false _ listed c.if-out-ops.false
