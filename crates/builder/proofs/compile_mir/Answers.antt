-- The output is cleared before, and after a refusal; the work after every answer.
use Rattle.std.proofs.Common.{arith, rules}
use Rattle.builder.proofs.Answers.{refused_compiled, listed_compiled}
use Rattle.builder.proofs.Bytes.{small_bytes}
use Rattle.builder.proofs.compile_mir.Goals as goal

pub returns-then-is_err : goal.returns-then-is_err
returns-then-is_err c =
    let bytes = small_bytes c.args.file.now (λ i h. omega (arith, c.type_inv.file i)) in
    refused_compiled c.args.file.now c.args.work.now c.compile-answer.new.work _ c.args.out.now _ bytes (search rules)
    c.clear-2.ensures c.clear.ensures _ _ (search rules) c.clear-then-is_err.ensures _ c.if-is_err.ensures.value
    c.compile-answer.ensures

pub returns-else-is_err : goal.returns-else-is_err
returns-else-is_err c =
    let bytes = small_bytes c.args.file.now (λ i h. omega (arith, c.type_inv.file i)) in
    listed_compiled c.args.file.now c.args.work.now c.compile-answer.new.work _ c.args.out.now _ bytes (search rules)
    c.clear-2.ensures c.clear.ensures _ _ c.if-is_err.ensures.value c.compile-answer.ensures
