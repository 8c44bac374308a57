-- A byte that is written adds one to those read; where none is, those read are all.
use Rattle.std.proofs.Common.{arith}
use Rattle.std.proofs.lemmas.List.{set-get_or, take_rest}
use Rattle.vectors.proofs.Written.{bytes_stop, bytes_full, bytes_next}
use Rattle.vectors.proofs.Cursor.read_bytes.Goals as goal

pub returns-in_default-clause-read : goal.returns-in_default-clause-read
returns-in_default-clause-read c = rw set-get_or (bytes_stop c.loop-n.invariant (omega (arith, c.in_default.ensures.value)))

pub loop-n-preserved : goal.loop-n-preserved
loop-n-preserved c =
    let written = c.in-Some.ensures.value in
    rw take_rest (bytes_next c.loop-n.invariant c.in-Some.b c.loop-n-test.true written.1 (omega (arith, written)))

pub returns-clause-read : goal.returns-clause-read
returns-clause-read c =
    bytes_full c.loop-n.invariant c.loop-n-test.false (omega arith)
