-- Trimming a node meets its contracts: one law for each way out.
use Rattle.std.proofs.Common.{arith, sym, ◌∙◌}
use Rattle.trim.proofs.Trimming.{view_leaf, view_marks, leaf, ready_node}
use Rattle.trim.proofs.Calling.{call_ready, call_trimmed}
use Rattle.trim.proofs.OneSide.{ready_one, called_one, calling_one, unary_trimmed}
use Rattle.trim.proofs.TwoSides.{sides, ready_left, ready_right, called_two, calling_two}
use Rattle.trim.proofs.Joining.{store_ready, join_trimmed}
use Rattle.trim.proofs.Handing.{same_twice, view_back, broken_back}
use Rattle.trim.proofs.+trim_trim_node.Goals as goal

-- ---- a node with its mark

pub trim-returns-in-Some-clause-trimmed : goal.trim-returns-in-Some-clause-trimmed
trim-returns-in-Some-clause-trimmed t c =
    rw c.standing.ensures (view_leaf c.requires (omega (arith, c.in-Some.ensures)))

pub trim-trim_node-a-requires : goal.trim-trim_node-a-requires
trim-trim_node-a-requires t c =
    (omega arith, ready_node (omega (arith, c.in_default.ensures)) c.requires)

pub trim-returns-clause-trimmed : goal.trim-returns-clause-trimmed
trim-returns-clause-trimmed t c =
    rw c.set.ensures
    (view_marks _ c.args.t.now.nodes.table c.requires (omega (arith, c.in_default.ensures)) c.trim_node-a.ensures.trimmed)

-- ---- a leaf

pub trim_node-returns-in-Const-clause-trimmed : goal.trim_node-returns-in-Const-clause-trimmed
trim_node-returns-in-Const-clause-trimmed t c =
    rw c.plain.ensures (leaf c.args.t.now.nodes.table c.requires c.get.ensures c.in-Const.is)

-- ---- over one side

pub trim_node-trim-a-requires : goal.trim_node-trim-a-requires
trim_node-trim-a-requires t c =
    let node = sym c.get.ensures ∙ c.in-Unary.is in
    (omega (arith, c.requires.within), ready_one c.args.t.now.nodes.table c.requires node)

pub trim_node-break_call-requires : goal.trim_node-break_call-requires
trim_node-break_call-requires t c =
    let node = sym c.get.ensures ∙ c.in-Unary.is in
    let function = sym c.is_function.ensures ∙ c.if-is_function.true in
    let calling = calling_one c.args.t.now.nodes.table c.requires node c.trim-a.ensures.trimmed function in
    let same = c.trim-a.ensures.same in
    rw (same.nodes, same.settings) (call_ready c.requires calling (called_one c.args.t.now.nodes.table c.requires node function))

pub trim_node-returns-then-is_function-clause-trimmed : goal.trim_node-returns-then-is_function-clause-trimmed
trim_node-returns-then-is_function-clause-trimmed t c =
    let node = sym c.get.ensures ∙ c.in-Unary.is in
    let function = sym c.is_function.ensures ∙ c.if-is_function.true in
    let calling = calling_one c.args.t.now.nodes.table c.requires node c.trim-a.ensures.trimmed function in
    rw c.standing.ensures (call_trimmed c.requires calling (broken_back c.trim-a.ensures.same c.break_call.ensures.broken))

pub trim_node-returns-else-is_function-clause-trimmed : goal.trim_node-returns-else-is_function-clause-trimmed
trim_node-returns-else-is_function-clause-trimmed t c =
    let node = sym c.get.ensures ∙ c.in-Unary.is in
    let other = sym c.is_function.ensures ∙ c.if-is_function.false in
    rw c.plain-in-Unary.ensures (unary_trimmed c.args.t.now.nodes.table c.requires node c.trim-a.ensures.trimmed other)

-- ---- over two sides

pub trim_node-trim-a-requires-in-Binary : goal.trim_node-trim-a-requires-in-Binary
trim_node-trim-a-requires-in-Binary t c =
    let node = sym c.get.ensures ∙ c.in-Binary.is in
    (omega (arith, c.requires.within), ready_left c.args.t.now.nodes.table c.requires node)

pub trim_node-trim-b-requires : goal.trim_node-trim-b-requires
trim_node-trim-b-requires t c =
    let node = sym c.get.ensures ∙ c.in-Binary.is in
    let same = c.trim-a-in-Binary.ensures.same in
    let ready = ready_right c.args.t.now.nodes.table c.requires node c.trim-a-in-Binary.ensures.trimmed in
    rw (same.nodes, same.settings) (omega (arith, c.requires.within, (sides c.args.t.now.nodes.table c.requires node).order), ready)

pub trim_node-break_call-requires-then-is_function-2 : goal.trim_node-break_call-requires-then-is_function-2
trim_node-break_call-requires-then-is_function-2 t c =
    let node = sym c.get.ensures ∙ c.in-Binary.is in
    let right = view_back c.trim-a-in-Binary.ensures.same c.trim-b.ensures.trimmed in
    let function = sym c.is_function-in-Binary.ensures ∙ c.if-is_function-2.true in
    let calling = calling_two c.args.t.now.nodes.table c.requires node c.trim-a-in-Binary.ensures.trimmed right function in
    let same = same_twice c.trim-a-in-Binary.ensures.same c.trim-b.ensures.same in
    rw (same.nodes, same.settings) (call_ready c.requires calling (called_two c.args.t.now.nodes.table c.requires node function))

pub trim_node-returns-then-is_function-2-clause-trimmed : goal.trim_node-returns-then-is_function-2-clause-trimmed
trim_node-returns-then-is_function-2-clause-trimmed t c =
    let node = sym c.get.ensures ∙ c.in-Binary.is in
    let right = view_back c.trim-a-in-Binary.ensures.same c.trim-b.ensures.trimmed in
    let function = sym c.is_function-in-Binary.ensures ∙ c.if-is_function-2.true in
    let calling = calling_two c.args.t.now.nodes.table c.requires node c.trim-a-in-Binary.ensures.trimmed right function in
    let same = same_twice c.trim-a-in-Binary.ensures.same c.trim-b.ensures.same in
    rw c.standing-then-is_function-2.ensures
    (call_trimmed c.requires calling (broken_back same c.break_call-then-is_function-2.ensures.broken))

pub trim_node-store-requires : goal.trim_node-store-requires
trim_node-store-requires t c =
    let node = sym c.get.ensures ∙ c.in-Binary.is in
    let right = view_back c.trim-a-in-Binary.ensures.same c.trim-b.ensures.trimmed in
    let same = same_twice c.trim-a-in-Binary.ensures.same c.trim-b.ensures.same in
    let chosen = rw same.settings at c.sides_to_store-how.ensures in
    store_ready c.args.t.now.nodes.table c.requires node c.trim-a-in-Binary.ensures.trimmed right _ chosen

pub trim_node-returns-else-is_function-2-clause-trimmed : goal.trim_node-returns-else-is_function-2-clause-trimmed
trim_node-returns-else-is_function-2-clause-trimmed t c =
    let node = sym c.get.ensures ∙ c.in-Binary.is in
    let right = view_back c.trim-a-in-Binary.ensures.same c.trim-b.ensures.trimmed in
    let other = sym c.is_function-in-Binary.ensures ∙ c.if-is_function-2.false in
    let same = same_twice c.trim-a-in-Binary.ensures.same c.trim-b.ensures.same in
    let chosen = rw same.settings at c.sides_to_store-how.ensures in
    join_trimmed c.args.t.now.nodes.table c.requires node c.trim-a-in-Binary.ensures.trimmed right chosen other
    c.store.ensures.stored c.join.ensures c.plain-in-Binary.ensures
