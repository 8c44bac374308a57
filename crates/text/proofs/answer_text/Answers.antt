-- The one line of a refusal, or the first line and the operations' lines.
use Rattle.std.proofs.Common.{arith, rules, refl}
use Rattle.operation.specs.Names.{bytes}
use Rattle.text.proofs.Texts.{adds_then, adds_ends, writes_refused, writes_accepted}
use Rattle.text.proofs.answer_text.Goals as goal
use Rattle.text.proofs.answer_text.Goals.{then-number-eq0, else-number-eq0}

pub returns : goal.returns
unfolding bytes
returns c = elim c.if-number-eq0.branch [
  | then-number-eq0 w ↦
      let ops = adds_then w.push.ensures.adds w.decimal.ensures.adds in
      let temps = adds_then (adds_then ops w.push-then-number-eq0.ensures.adds) w.decimal-then-number-eq0.ensures.adds in
      let lines = adds_then (adds_then temps w.push-then-number-eq0-2.ensures.adds) w.lines.ensures.adds in
      writes_accepted c.if-number-eq0.t refl (search rules) (omega arith) c.args.number c.args.ops c.args.temps c.args.out.now
      w.if-number-eq0.true c.requires.ops_in_bounds (adds_ends lines (search rules))
  | else-number-eq0 w ↦
      let refused = adds_then w.push-else-number-eq0.ensures.adds w.decimal-else-number-eq0.ensures.adds in
      let line = adds_then refused w.push-else-number-eq0-2.ensures.adds in
      writes_refused c.if-number-eq0.t refl (search rules) (omega arith) c.args.number c.args.ops c.args.temps c.args.out.now
      w.if-number-eq0.false (adds_ends line (search rules))
]
