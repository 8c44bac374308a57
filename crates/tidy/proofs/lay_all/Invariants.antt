-- After so many turns the trees of so many statements are laid, and the later rows are as they were.
use Rattle.tidy.proofs.Relaying.{LaidSoFar}
use Rattle.tidy.proofs.lay_all.Given as goal

abbrev pub invariant-loop-row : goal.invariant-loop-row
invariant-loop-row l = LaidSoFar l.links l.initial.ws l.initial.rows l.ws l.rows l.row-index l.m
