-- After k turns the trees of k statements are laid, and the later rows are as they were.
use Rattle.tidy.proofs.Relaying.{none_laid, next_given, place_told, root_told, next_fits, next_laid}
use Rattle.tidy.proofs.lay_all.Goals as goal
use Rattle.tidy.proofs.lay_all.Goals.{in-Given, in_default}

pub loop-row-init : goal.loop-row-init
loop-row-init c = none_laid _ _ _

pub lay-m-requires : goal.lay-m-requires
lay-m-requires c =
    rw (root_told c.requires c.loop-row.invariant c.loop-row-test.true c.in-Given.is)
    (next_fits c.requires c.loop-row.invariant c.loop-row-test.true)

pub loop-row-preserved : goal.loop-row-preserved
loop-row-preserved c =
    elim c.match-row.branch [
      | in-Given w ↦
          let place = place_told c.requires c.loop-row.invariant c.loop-row-test.true w.in-Given.is in
          let root = root_told c.requires c.loop-row.invariant c.loop-row-test.true w.in-Given.is in
          rw (w.ws-is, w.rows-is, w.m-is, place)
          (next_laid c.requires c.loop-row.invariant c.loop-row-test.true (rw root at w.lay-m.ensures))
      | in_default w ↦ absurd (w.in_default.not-Given _ _ (next_given c.requires c.loop-row.invariant c.loop-row-test.true))
    ]
