-- A digit makes the number longer; without one, past the limit or at the end the number is whole.
use Rattle.std.proofs.Common.{sym, ◌∙◌, inl, inr, arith}
use Rattle.std.proofs.lemmas.List.{take_rest}
use Rattle.vectors.proofs.Written.{number_ends, number_over, number_past, number_next}
use Rattle.vectors.proofs.Cursor.read_number.Goals as goal

pub returns-then-not-is_ascii_digit : goal.returns-then-not-is_ascii_digit
returns-then-not-is_ascii_digit c =
    let is_digit = c.is_ascii_digit.ensures.value in
    elim c.then-not-is_ascii_digit.either [
      | inl e ↦ number_past _ c.loop-self.invariant (sym e ∙ is_digit)
      | inr p ↦ number_over _ c.loop-self.invariant p.1
    ]

pub loop-self-preserved : goal.loop-self-preserved
loop-self-preserved c =
    let digit = c.if-not-is_ascii_digit.ensures.value in
    rw take_rest (number_next _ c.loop-self.invariant c.in-len1-up.len_at_least digit c.if-n-gt-WORK.false (omega arith))

pub returns : goal.returns
returns c = number_ends c.loop-self.self.text.now c.loop-self.invariant (omega arith)
