-- The text that is looked for is the answer's.
use Rattle.std.proofs.Common.{◌*◌, ap, ◌∙◌}
use Rattle.std.proofs.lemmas.List.{take_rest}
use Rattle.replay.specs.Vector.{all_zero, given_answer, recorded_zero}
use Rattle.replay.proofs.Recorded.{found_recorded}
use Rattle.replay.proofs.printed.Goals as goal

pub returns-then-begins : goal.returns-then-begins
unfolding recorded_zero
returns-then-begins c =
    let printed = given_answer c.args.answer c.args.out.now in
    let found = found_recorded c.args.text.text.now printed c.answer_text-n.ensures.first c.skip.ensures c.begins.ensures.value in
    rw (found ∙ c.if-begins.true) (c.is_zero.ensures ∙ ap all_zero (take_rest c.args.out.now (6 * c.args.answer.ops)))

pub returns-else-begins : goal.returns-else-begins
unfolding recorded_zero
returns-else-begins c =
    let printed = given_answer c.args.answer c.args.out.now in
    let found = found_recorded c.args.text.text.now printed c.answer_text-n.ensures.first c.skip.ensures c.begins.ensures.value in
    rw (found ∙ c.if-begins.false) c.if-begins.false
