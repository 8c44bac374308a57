-- The bytes read so far stand in the file.
use Rattle.vectors.proofs.Written.{BytesSoFar}
use Rattle.vectors.proofs.Cursor.read_bytes.Given as goal

abbrev pub invariant-loop-n : goal.invariant-loop-n
invariant-loop-n l = BytesSoFar l.initial.self.text.now l.initial.file l.n l.file l.self.text.now
