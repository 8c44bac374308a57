-- The first node's number grows at each turn of the cycle; each return has what its arm emits.
use Rattle.std.proofs.Common.{arith, refl}
use Rattle.definitions.proofs.Evaluation.{join_covers}
use Rattle.ershov.proofs.Numbers.{known_low, known_room}
use Rattle.evaluator.proofs.Evaluating.{node_room, view_emitted_marked, one_side, two_sides}
use Rattle.evaluator.proofs.Evaluating.{seen_constant, seen_variable, seen_one, seen_two}
use Rattle.evaluator.proofs.OverSides.{two_in_registers, two_right_fused, two_left_fused}
use Rattle.evaluator.proofs.OverSides.{turns_taken, first_ready, second_ready, sides_allocated}
use Rattle.evaluator.proofs.Evaluator.+alloc_compile_compile_binary_compile_node.Goals as goal

-- ---- compile

pub compile-get-requires : goal.compile-get-requires
compile-get-requires t c = known_low c.requires.known

pub compile-load_var-requires : goal.compile-load_var-requires
compile-load_var-requires t c = node_room c.requires

pub compile-returns-in-Some : goal.compile-returns-in-Some
compile-returns-in-Some t c =
    let mark = c.in-Some.ensures in
    view_emitted_marked c.args.self.now c.args.i c.args.base c.requires.known (omega (arith, mark.0))
    (rw (← mark.1) c.temporary.ensures) c.load_var.ensures

-- ---- compile_node, from the node that was unpacked

pub compile_node-unpack-requires : goal.compile_node-unpack-requires
compile_node-unpack-requires t c = known_room c.requires.known

pub compile_node-overflow_add-i : goal.compile_node-overflow_add-i
compile_node-overflow_add-i t c = omega (arith, known_low c.requires.known)

pub compile_node-overflow_add-i-in-Unary : goal.compile_node-overflow_add-i-in-Unary
compile_node-overflow_add-i-in-Unary t c = omega (arith, known_low c.requires.known)

pub compile_node-overflow_add-i-in-Binary : goal.compile_node-overflow_add-i-in-Binary
compile_node-overflow_add-i-in-Binary t c = omega (arith, known_low c.requires.known)

pub compile_node-load_const-requires : goal.compile_node-load_const-requires
compile_node-load_const-requires t c = node_room c.requires

pub compile_node-load_var-requires : goal.compile_node-load_var-requires
compile_node-load_var-requires t c = node_room c.requires

pub compile_node-compile-requires : goal.compile_node-compile-requires
compile_node-compile-requires t c =
    let side = one_side c.requires c.unpack.ensures c.in-Unary.is in
    (omega arith, side.ready)

pub compile_node-ershov-requires : goal.compile_node-ershov-requires
compile_node-ershov-requires t c =
    let side = one_side c.requires c.unpack.ensures c.in-Unary.is in
    known_low side.ready.known

pub compile_node-overflow_add-r : goal.compile_node-overflow_add-r
compile_node-overflow_add-r t c =
    let side = one_side c.requires c.unpack.ensures c.in-Unary.is in
    let numbered = c.ershov.ensures.known side.ready.known in
    omega (arith, numbered.most, side.ready.low, known_low side.ready.known)

pub compile_node-overflow_sub-r : goal.compile_node-overflow_sub-r
compile_node-overflow_sub-r t c =
    let side = one_side c.requires c.unpack.ensures c.in-Unary.is in
    let numbered = c.ershov.ensures.known side.ready.known in
    omega (arith, numbered.positive)

pub compile_node-one-requires : goal.compile_node-one-requires
compile_node-one-requires t c =
    let side = one_side c.requires c.unpack.ensures c.in-Unary.is in
    omega (arith, c.requires.counted, side.less, c.compile.ensures.ends, c.compile.ensures.few)

pub compile_node-compile_binary-requires : goal.compile_node-compile_binary-requires
compile_node-compile_binary-requires t c =
    let sides = two_sides c.requires c.unpack.ensures c.in-Binary.is in
    (omega (arith, known_low c.requires.known), sides)

pub compile_node-returns-in-Const : goal.compile_node-returns-in-Const
compile_node-returns-in-Const t c = seen_constant c.requires c.unpack.ensures c.in-Const.is c.load_const.ensures

pub compile_node-returns-in-Var : goal.compile_node-returns-in-Var
compile_node-returns-in-Var t c = seen_variable c.requires c.unpack.ensures c.in-Var.is c.load_var.ensures

pub compile_node-returns-in-Unary : goal.compile_node-returns-in-Unary
compile_node-returns-in-Unary t c =
    let side = one_side c.requires c.unpack.ensures c.in-Unary.is in
    seen_one c.requires c.unpack.ensures c.in-Unary.is (c.ershov.ensures.known side.ready.known) c.compile.ensures c.one.ensures

pub compile_node-returns-in-Binary : goal.compile_node-returns-in-Binary
compile_node-returns-in-Binary t c = seen_two c.requires c.unpack.ensures c.in-Binary.is c.compile_binary.ensures

-- ---- compile_binary, from the plan of its sides

pub compile_binary-ershov-x-requires : goal.compile_binary-ershov-x-requires
compile_binary-ershov-x-requires t c = known_low c.requires.left

pub compile_binary-ershov-y-requires : goal.compile_binary-ershov-y-requires
compile_binary-ershov-y-requires t c = known_low c.requires.right

pub compile_binary-overflow_add-d : goal.compile_binary-overflow_add-d
compile_binary-overflow_add-d t c =
    let left = c.ershov-x.ensures.known c.requires.left in
    let right = c.ershov-y.ensures.known c.requires.right in
    let joined = join_covers c.ershov-x.result c.ershov-y.result in
    omega (arith, left.most, right.most, joined, c.requires.low, known_low c.requires.left)

pub compile_binary-overflow_add-base : goal.compile_binary-overflow_add-base
compile_binary-overflow_add-base t c =
    let left = c.ershov-x.ensures.known c.requires.left in
    omega (arith, left.most, c.requires.low, known_low c.requires.left)

pub compile_binary-overflow_add-base-in-Left : goal.compile_binary-overflow_add-base-in-Left
compile_binary-overflow_add-base-in-Left t c =
    let right = c.ershov-y.ensures.known c.requires.right in
    omega (arith, right.most, c.requires.low, known_low c.requires.left)

pub compile_binary-alloc-a-requires : goal.compile_binary-alloc-a-requires
compile_binary-alloc-a-requires t c =
    let left = c.ershov-x.ensures.known c.requires.left in
    let right = c.ershov-y.ensures.known c.requires.right in
    (omega arith, (c.requires, (left, right)))

pub compile_binary-returns-in-InRegisters : goal.compile_binary-returns-in-InRegisters
compile_binary-returns-in-InRegisters t c =
    let left = c.ershov-x.ensures.known c.requires.left in
    let right = c.ershov-y.ensures.known c.requires.right in
    two_in_registers c.args.self.now c.args.s c.args.base left right
    c.calc_ershov.ensures c.plan_of.ensures c.in-InRegisters.is c.alloc-a.ensures c.two.ensures

pub compile_binary-returns-in-Right : goal.compile_binary-returns-in-Right
compile_binary-returns-in-Right t c =
    let left = c.ershov-x.ensures.known c.requires.left in
    let right = c.ershov-y.ensures.known c.requires.right in
    two_right_fused c.args.self.now c.args.s c.args.base left right
    c.calc_ershov.ensures c.plan_of.ensures c.in-Right.is c.compile.ensures c.fused_math.ensures

pub compile_binary-returns-in-Left : goal.compile_binary-returns-in-Left
compile_binary-returns-in-Left t c =
    let left = c.ershov-x.ensures.known c.requires.left in
    let right = c.ershov-y.ensures.known c.requires.right in
    two_left_fused c.args.self.now c.args.s c.args.base left right
    c.calc_ershov.ensures c.plan_of.ensures c.in-Left.is c.compile-in-Left.ensures c.fused_math-in-Left.ensures

-- ---- alloc, from the turns that the sides take

pub alloc-take_turns-turns-requires : goal.alloc-take_turns-turns-requires
alloc-take_turns-turns-requires t c = omega (arith, c.requires.ready.low, known_low c.requires.ready.left)

pub alloc-overflow_add-result : goal.alloc-overflow_add-result
alloc-overflow_add-result t c =
    let turns = turns_taken c.args.x c.args.y c.requires.ready c.take_turns-turns.ensures in
    omega (arith, turns.low, known_low turns.known, c.requires.left.most)

pub alloc-overflow_add-result-2 : goal.alloc-overflow_add-result-2
alloc-overflow_add-result-2 t c =
    omega (arith, c.requires.ready.low, known_low c.requires.ready.left, c.requires.right.most)

pub alloc-compile-requires : goal.alloc-compile-requires
alloc-compile-requires t c =
    let turns = turns_taken c.args.x c.args.y c.requires.ready c.take_turns-turns.ensures in
    (omega (arith, turns.from, known_low turns.known), first_ready c.args.x c.args.y c.requires.ready c.take_turns-turns.ensures)

pub alloc-compile-requires-2 : goal.alloc-compile-requires-2
alloc-compile-requires-2 t c =
    let turns = turns_taken c.args.x c.args.y c.requires.ready c.take_turns-turns.ensures in
    let ready = second_ready c.args.x c.args.y c.requires.ready c.take_turns-turns.ensures refl c.compile.ensures in
    (omega (arith, turns.next, known_low turns.next_known), ready)

pub alloc-returns : goal.alloc-returns
alloc-returns t c =
    sides_allocated _ _ c.requires.ready c.take_turns-turns.ensures c.requires.left c.requires.right c.compile.ensures
    c.compile-2.ensures
