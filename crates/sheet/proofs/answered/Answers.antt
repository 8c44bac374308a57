-- What the call gives are the parts of the answer, and there is room for their text.
use Rattle.std.proofs.Common.{arith}
use Rattle.limits.specs.Limits.{work_words}
use Rattle.text.proofs.Texts.{parts_room, parts_written}
use Rattle.sheet.proofs.answered.Goals as goal

pub answer_text-requires-clause-ops_in_bounds : goal.answer_text-requires-clause-ops_in_bounds
answer_text-requires-clause-ops_in_bounds c =
    let called = c.zubmanger_compile-number.ensures in
    parts_room c.args.file.now work_words work_words called.ops called.output

pub answer_text-requires-clause-ops_in_bounds_2 : goal.answer_text-requires-clause-ops_in_bounds_2
answer_text-requires-clause-ops_in_bounds_2 c =
    let called = c.zubmanger_compile-number.ensures in
    let room = parts_room c.args.file.now work_words work_words called.ops called.output in
    omega (arith, room)
