-- Each return cites one law: a text is stored after the trees in it, sides left before right, and a node goes by its mark.
use Rattle.std.proofs.Common.{arith, refl, inl, inr}
use Rattle.rewrite.proofs.Rewriting.{unmarked_by, marked_by, node_text, node_text_depth, node_unmarked, node_marked}
use Rattle.rewrite.proofs.Rewriting.{side_one, side_left, side_right, sides_leaf, sides_one, sides_two}
use Rattle.rewrite.proofs.Rewriting.{text_node, text_new}
use Rattle.rewrite.proofs.Readiness.{ready_at, ready_after, ready_text, text_row_left}
use Rattle.rewrite.proofs.Shared.+common_subexpr_rewrite_children_rewrite_cse.Goals as goal

-- ---- a text: the trees in it, then its row

pub common_subexpr-rewrite_children-requires : goal.common_subexpr-rewrite_children-requires
common_subexpr-rewrite_children-requires t c = (omega (arith, c.decreases), ready_text c.if-out-at.false c.requires)

pub common_subexpr-put-requires : goal.common_subexpr-put-requires
common_subexpr-put-requires t c = text_row_left c.if-out-at.false c.requires c.rewrite_children.ensures.stores

pub common_subexpr-returns-clause-stores : goal.common_subexpr-returns-clause-stores
common_subexpr-returns-clause-stores t c =
    λ n texts a.
    let room = (text_row_left c.if-out-at.false c.requires c.rewrite_children.ensures.stores).0 in
    let inside = c.rewrite_children.ensures.stores n texts (text_node a) in
    text_new a _ c.if-out-at.false c.requires.flags _ inside room c.put.ensures.put

-- ---- the sides of a node

pub rewrite_children-rewrite_cse-requires : goal.rewrite_children-rewrite_cse-requires
rewrite_children-rewrite_cse-requires t c =
    let side = side_one c.requires.at c.get-node.ensures c.in-Unary.is in
    (omega (arith, c.decreases, side.1), ready_at c.requires side.0)

pub rewrite_children-rewrite_cse-requires-in-Binary : goal.rewrite_children-rewrite_cse-requires-in-Binary
rewrite_children-rewrite_cse-requires-in-Binary t c =
    let side = side_left c.requires.at c.get-node.ensures c.in-Binary.is in
    (omega (arith, c.decreases, side.1), ready_at c.requires side.0)

pub rewrite_children-rewrite_cse-requires-in-Binary-2 : goal.rewrite_children-rewrite_cse-requires-in-Binary-2
rewrite_children-rewrite_cse-requires-in-Binary-2 t c =
    let left = side_left c.requires.at c.get-node.ensures c.in-Binary.is in
    let right = side_right c.requires.at c.get-node.ensures c.in-Binary.is in
    let after = c.rewrite_cse-in-Binary.ensures.stores _ _ left.0 in
    (omega (arith, c.decreases, right.1), ready_after c.requires after right.0)

pub rewrite_children-returns-in-Const-clause-stores : goal.rewrite_children-returns-in-Const-clause-stores
rewrite_children-returns-in-Const-clause-stores t c =
    λ n texts a.
    elim c.in-Const.is [
      | inl w ↦ sides_leaf a c.get-node.ensures w.1 (λ T st. refl) c.requires.flags
      | inr w ↦ sides_leaf a c.get-node.ensures w.1 (λ T st. refl) c.requires.flags
    ]

pub rewrite_children-returns-in-Unary-clause-stores : goal.rewrite_children-returns-in-Unary-clause-stores
rewrite_children-returns-in-Unary-clause-stores t c =
    λ n texts a.
    let side = side_one a c.get-node.ensures c.in-Unary.is in
    sides_one a c.get-node.ensures c.in-Unary.is (c.rewrite_cse.ensures.stores n texts side.0)

pub rewrite_children-returns-in-Binary-clause-stores : goal.rewrite_children-returns-in-Binary-clause-stores
rewrite_children-returns-in-Binary-clause-stores t c =
    λ n texts a.
    let left = side_left a c.get-node.ensures c.in-Binary.is in
    let right = side_right a c.get-node.ensures c.in-Binary.is in
    sides_two a c.get-node.ensures c.in-Binary.is (c.rewrite_cse-in-Binary.ensures.stores n texts left.0)
    (c.rewrite_cse-in-Binary-2.ensures.stores n texts right.0)

-- ---- a node, by its mark

pub rewrite_cse-common_subexpr-requires : goal.rewrite_cse-common_subexpr-requires
rewrite_cse-common_subexpr-requires t c =
    let mark = marked_by c.in-Some.ensures in
    let text = node_text c.requires.at mark.0 in
    rw mark.1 (omega (arith, c.decreases, node_text_depth c.requires.at mark.0), ready_at c.requires text)

pub rewrite_cse-returns-in-None-clause-stores : goal.rewrite_cse-returns-in-None-clause-stores
rewrite_cse-returns-in-None-clause-stores t c =
    λ n texts a. node_unmarked a (unmarked_by c.in-None.ensures) (c.rewrite_children.ensures.stores n texts a)

pub rewrite_cse-returns-in-Some-clause-stores : goal.rewrite_cse-returns-in-Some-clause-stores
rewrite_cse-returns-in-Some-clause-stores t c =
    λ n texts a.
    let mark = marked_by c.in-Some.ensures in
    node_marked a mark.0 (rw mark.1 at (c.common_subexpr.ensures.stores n texts (rw mark.1 (node_text a mark.0))))
