-- A call of two is wide if both its sides have the scratch count for their numbers; the second is asked only if the first has it.
use Rattle.std.proofs.Common.{arith, refl, sym, ◌∙◌}
use borrow.Author.Tests.{eq-eqb, ne_eqb}
use Rattle.trim.proofs.Wide.{single_narrow, binary_narrow, left_within, right_within, sides_low, left_narrow, binary_wide}
use Rattle.trim.proofs.Check.wide_node.Goals as goal

pub returns-in_default : goal.returns-in_default
returns-in_default c = single_narrow _ _ c.args.self.now.trees.nodes.table c.requires c.get.ensures c.in_default.not-Binary

pub returns-then-not-is_function : goal.returns-then-not-is_function
returns-then-not-is_function c =
    let other = sym c.is_function.ensures ∙ c.if-not-is_function.true in
    binary_narrow _ _ c.args.self.now.trees.nodes.table c.requires c.get.ensures c.in-Binary.is other

pub ershov-requires : goal.ershov-requires
ershov-requires c = omega (arith, sides_low c.args.self.now.trees.nodes.table c.requires c.get.ensures c.in-Binary.is)

pub ershov-requires-then-ershov-self : goal.ershov-requires-then-ershov-self
ershov-requires-then-ershov-self c = omega (arith, sides_low c.args.self.now.trees.nodes.table c.requires c.get.ensures c.in-Binary.is)

pub returns-then-ershov-self : goal.returns-then-ershov-self
returns-then-ershov-self c =
    let table = c.args.self.now.trees.nodes.table in
    let function = sym c.is_function.ensures ∙ c.if-not-is_function.false in
    let left = c.ershov.ensures.numbered (left_within table c.requires c.get.ensures c.in-Binary.is) in
    let right = c.ershov-then-ershov-self.ensures.numbered (right_within table c.requires c.get.ensures c.in-Binary.is) in
    binary_wide table c.requires c.get.ensures c.in-Binary.is _ _ function left right (rw (eq-eqb _ _ c.if-ershov-self.true) refl)

pub returns-else-ershov-self : goal.returns-else-ershov-self
returns-else-ershov-self c =
    let table = c.args.self.now.trees.nodes.table in
    let function = sym c.is_function.ensures ∙ c.if-not-is_function.false in
    let left = c.ershov.ensures.numbered (left_within table c.requires c.get.ensures c.in-Binary.is) in
    let off = ne_eqb _ _ c.if-ershov-self.false in
    rw off (left_narrow table c.requires c.get.ensures c.in-Binary.is _ _ function left off)
