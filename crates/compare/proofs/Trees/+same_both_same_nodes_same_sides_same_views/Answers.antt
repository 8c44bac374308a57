-- The comparison of two nodes meets its contract: one law for each way out.
use Rattle.std.proofs.Common.{◌≡◌, ◌∙◌, true, false, arith, rules, refl, sym}
use Rattle.limits.specs.Limits.{depth_limit}
use Rattle.operation.proofs.Equal.{one_tells, two_tells}
use Rattle.node.proofs.Nodes.{laid_room}
use Rattle.compare.proofs.MarksDecide.{node_low, both_marks_decide}
use Rattle.compare.proofs.HeadsDecide.{told, consts_decide, vars_decide, unary_trees, unary_side_decides, unaries_differ}
use Rattle.compare.proofs.HeadsDecide.{binary_trees, binary_sides_decide, binaries_differ}
use Rattle.compare.proofs.HeadsDecide.{const_differs, var_differs, unary_differs, binary_differs}
use Rattle.compare.proofs.Trees.+same_both_same_nodes_same_sides_same_views.Goals as goal

pub same_nodes-unpack-requires : goal.same_nodes-unpack-requires
same_nodes-unpack-requires t c = laid_room _ depth_limit _ c.requires.first.laid

pub same_nodes-unpack-requires-2 : goal.same_nodes-unpack-requires-2
same_nodes-unpack-requires-2 t c = laid_room _ depth_limit _ c.requires.second.laid

pub same_views-returns-in-Some-Some : goal.same_views-returns-in-Some-Some
same_views-returns-in-Some-Some t c = both_marks_decide _ _ _ _ c.in-Some-Some.ensures c.in-Some-Some.ensures'

-- ---- of one kind

pub same_nodes-returns-in-Const-Const : goal.same_nodes-returns-in-Const-Const
same_nodes-returns-in-Const-Const t c =
    consts_decide (told c.requires c.unpack.ensures c.unpack-2.ensures c.in-Const-Const.is-0 c.in-Const-Const.is-1) _

pub same_nodes-returns-in-Var-Var : goal.same_nodes-returns-in-Var-Var
same_nodes-returns-in-Var-Var t c =
    let same : c.in-Var-Var.p ≡ c.in-Var-Var.q → c.eq.result ≡ true = λ e. search rules in
    let other : (c.in-Var-Var.p ≡ c.in-Var-Var.q → ⊥) → c.eq.result ≡ false = λ no. search rules in
    vars_decide (told c.requires c.unpack.ensures c.unpack-2.ensures c.in-Var-Var.is-0 c.in-Var-Var.is-1) same other _

pub same_nodes-same_views-requires : goal.same_nodes-same_views-requires
same_nodes-same_views-requires t c =
    let nodes = told c.requires c.unpack.ensures c.unpack-2.ensures c.in-Unary-Unary.is-0 c.in-Unary-Unary.is-1 in
    (omega (arith, node_low c.requires.first), unary_trees nodes)

pub same_nodes-returns-then-eq : goal.same_nodes-returns-then-eq
same_nodes-returns-then-eq t c =
    let nodes = told c.requires c.unpack.ensures c.unpack-2.ensures c.in-Unary-Unary.is-0 c.in-Unary-Unary.is-1 in
    let one = one_tells _ _ (sym c.eq-in-Unary-Unary.ensures ∙ c.if-eq.true) in
    unary_side_decides nodes _ one c.same_views.ensures

pub same_nodes-returns-else-eq : goal.same_nodes-returns-else-eq
same_nodes-returns-else-eq t c =
    let nodes = told c.requires c.unpack.ensures c.unpack-2.ensures c.in-Unary-Unary.is-0 c.in-Unary-Unary.is-1 in
    rw c.if-eq.false (unaries_differ nodes _ (λ e. search rules))

pub same_nodes-same_sides-requires : goal.same_nodes-same_sides-requires
same_nodes-same_sides-requires t c =
    let nodes = told c.requires c.unpack.ensures c.unpack-2.ensures c.in-Binary-Binary.is-0 c.in-Binary-Binary.is-1 in
    (omega (arith, node_low c.requires.first), binary_trees nodes)

pub same_nodes-returns-then-eq-2 : goal.same_nodes-returns-then-eq-2
same_nodes-returns-then-eq-2 t c =
    let nodes = told c.requires c.unpack.ensures c.unpack-2.ensures c.in-Binary-Binary.is-0 c.in-Binary-Binary.is-1 in
    let two = two_tells _ _ (sym c.eq-in-Binary-Binary.ensures ∙ c.if-eq-2.true) in
    binary_sides_decide nodes _ two c.same_sides.ensures

pub same_nodes-returns-else-eq-2 : goal.same_nodes-returns-else-eq-2
same_nodes-returns-else-eq-2 t c =
    let nodes = told c.requires c.unpack.ensures c.unpack-2.ensures c.in-Binary-Binary.is-0 c.in-Binary-Binary.is-1 in
    rw c.if-eq-2.false (binaries_differ nodes _ (λ e. search rules))

-- ---- of two kinds

pub same_nodes-returns-in_default : goal.same_nodes-returns-in_default
same_nodes-returns-in_default t c =
    const_differs _ (told c.requires c.unpack.ensures c.unpack-2.ensures c.in_default.is-0 refl) c.in_default.not-Const-1

pub same_nodes-returns-in_default-2 : goal.same_nodes-returns-in_default-2
same_nodes-returns-in_default-2 t c =
    var_differs _ (told c.requires c.unpack.ensures c.unpack-2.ensures c.in_default.is-0 refl) c.in_default.not-Var-1

pub same_nodes-returns-in_default-3 : goal.same_nodes-returns-in_default-3
same_nodes-returns-in_default-3 t c =
    unary_differs _ (told c.requires c.unpack.ensures c.unpack-2.ensures c.in_default.is-0 refl) c.in_default.not-Unary-1

pub same_nodes-returns-in_default-4 : goal.same_nodes-returns-in_default-4
same_nodes-returns-in_default-4 t c =
    binary_differs _ (told c.requires c.unpack.ensures c.unpack-2.ensures c.in_default.is-0 refl) c.in_default.not-Binary-1
