-- A tree begins with the node read at its tag; what stands below it was read by the turns.
use Rattle.std.proofs.Common.{inl, inr}
use Rattle.refusal.proofs.Passing.{passed_on}
use Rattle.node.specs.Sides.{const, var}
use Rattle.trees.proofs.Trees.{node_refused, leaf_read, under1_refused, under1_read}
use Rattle.trees.proofs.Trees.{left_refused, right_refused, under2_read, tree_was_got}
use Rattle.trees.proofs.Parser.+read_tree.Goals as goal

pub returns-in_err-x-clause-read : goal.returns-in_err-x-clause-read
returns-in_err-x-clause-read t c = rw (passed_on c.from_residual.ensures) (node_refused _ _ _ _ c.in_err-x.ensures)

pub returns-in-Const-clause-read : goal.returns-in-Const-clause-read
returns-in-Const-clause-read t c =
    elim c.in-Const.is [
      | inl k ↦ leaf_read _ _ (const k.0) (rw k.1 at c.in_ok-x.ensures) (rw k.1 at c.put.ensures.put)
      | inr p ↦ leaf_read _ _ (var p.0) (rw p.1 at c.in_ok-x.ensures) (rw p.1 at c.put.ensures.put)
    ]

pub returns-in_err-read_tree-in-Unary-clause-read :
    goal.returns-in_err-read_tree-in-Unary-clause-read
returns-in_err-read_tree-in-Unary-clause-read t c =
    let over = rw c.in-Unary.is at c.in_ok-x.ensures in
    rw (passed_on c.from_residual-in_err-read_tree-in-Unary.ensures)
    (under1_refused _ _ over _ _ _ c.in_err-read_tree-in-Unary.ensures.read)

pub returns-in_ok-read_tree-in-Unary-clause-read :
    goal.returns-in_ok-read_tree-in-Unary-clause-read
returns-in_ok-read_tree-in-Unary-clause-read t c =
    let over = rw c.in-Unary.is at c.in_ok-x.ensures in
    let side = tree_was_got _ _ _ c.in_ok-read_tree-in-Unary.ensures.read in
    under1_read _ _ over _ _ side (rw c.in-Unary.is at c.put-in-Unary.ensures.put)

pub returns-in_err-read_tree-in-Binary-clause-read :
    goal.returns-in_err-read_tree-in-Binary-clause-read
returns-in_err-read_tree-in-Binary-clause-read t c =
    let over = rw c.in-Binary.is at c.in_ok-x.ensures in
    rw (passed_on c.from_residual-in_err-read_tree-in-Binary.ensures)
    (left_refused _ _ over _ _ _ c.in_err-read_tree-in-Binary.ensures.read)

pub returns-in_err-read_tree-in-Binary-2-clause-read :
    goal.returns-in_err-read_tree-in-Binary-2-clause-read
returns-in_err-read_tree-in-Binary-2-clause-read t c =
    let over = rw c.in-Binary.is at c.in_ok-x.ensures in
    let first = c.in_ok-read_tree-in-Binary.ensures in
    let side = tree_was_got _ _ _ first.read in
    rw (passed_on c.from_residual-in_err-read_tree-in-Binary-2.ensures)
    (right_refused _ _ over _ side first.same _ _ _ c.in_err-read_tree-in-Binary-2.ensures.read)

pub returns-in_ok-read_tree-in-Binary-2-clause-read :
    goal.returns-in_ok-read_tree-in-Binary-2-clause-read
returns-in_ok-read_tree-in-Binary-2-clause-read t c =
    let over = rw c.in-Binary.is at c.in_ok-x.ensures in
    let first = c.in_ok-read_tree-in-Binary.ensures in
    let side = tree_was_got _ _ _ first.read in
    let other = tree_was_got _ _ _ c.in_ok-read_tree-in-Binary-2.ensures.read in
    under2_read _ _ over _ side first.same _ _ other c.put-in-Binary.ensures.put
