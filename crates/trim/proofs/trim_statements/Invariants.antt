-- The rows so far stay as they are read, and the roots to come as they are seen.
use Rattle.calls.specs.Progress.{progress_of, SameTrimmer}
use Rattle.trim.proofs.SheetTrimming.{TrimmedSoFar}
use Rattle.trim.proofs.trim_statements.Given as goal

abbrev pub invariant-loop-row : goal.invariant-loop-row
invariant-loop-row l =
    SameTrimmer l.initial.t l.t
    × TrimmedSoFar l.fn.settings l.fn.nodes.words.now l.fn.marks.words l.fn.shared l.fn.nodes.count l.fn.s (progress_of l.t) l.row-index
