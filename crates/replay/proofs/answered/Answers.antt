-- What the call gives are the parts of the answer, and the words are zero.
use mathlib.Core.Bool.{false≢true}
use Rattle.std.proofs.Common.{arith, sym, ◌∙◌}
use Rattle.replay.proofs.Recorded.{given_room, given_recorded, work_zero}
use Rattle.replay.proofs.answered.Goals as goal

pub printed-requires : goal.printed-requires
printed-requires c = (given_room c.zubmanger_compile-answer.ensures, omega (arith, c.requires))

pub returns-then-is_zero : goal.returns-then-is_zero
returns-then-is_zero c = c.printed.ensures ∙ given_recorded c.zubmanger_compile-answer.ensures c.args.text.text.now

pub returns-else-is_zero : goal.returns-else-is_zero
returns-else-is_zero c = absurd (false≢true (sym c.if-is_zero.false ∙ c.is_zero.ensures ∙ work_zero c.zubmanger_compile-answer.ensures))
