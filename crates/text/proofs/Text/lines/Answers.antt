-- A line follows those before it.
use Rattle.std.proofs.Common.{arith, rules, length, ◌/◌, ◌<◌}
use lib.ListN.{length-take}
use Rattle.operation.specs.Names.{bytes}
use Rattle.text.proofs.Texts.{adds_then, adds_as, adds_ends, lines_none, lines_next, run_line}
use Rattle.text.proofs.Text.lines.Goals as goal

pub loop-words-init : goal.loop-words-init
loop-words-init c = lines_none c.args.out.now

pub loop-words-preserved : goal.loop-words-preserved
unfolding bytes
loop-words-preserved c =
    let out = c.args.out.now in
    let i = c.loop-words.words-index in
    let before : i < c.args.n = omega (arith, length-take c.args.n c.as_chunks.result.0.now) in
    let text = run_line c.args.n (length out / 6) i out c.as_chunks.ensures.front before (omega arith) in
    let line = adds_as {k = 59} text (omega arith) (adds_then c.op.ensures.adds c.push.ensures.adds) in
    adds_ends (lines_next out i (omega arith) c.loop-words.invariant line) (search rules)
