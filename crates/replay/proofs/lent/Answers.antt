-- So many words are lent.
use Rattle.std.proofs.Common.{inl, inr}
use Rattle.replay.proofs.Zeros.{equal_part}
use Rattle.limits.specs.Limits.{work_words}
use Rattle.replay.proofs.Recorded.{lent_over_work, lent_over_room, lent_recorded}
use Rattle.replay.proofs.lent.Goals as goal

pub returns-then-works-gt-WORK : goal.returns-then-works-gt-WORK
returns-then-works-gt-WORK c = elim c.then-works-gt-WORK.either [
  | inl over ↦ lent_over_work _ _ c.args.works c.args.outs over
  | inr over ↦ lent_over_room _ _ c.args.works c.args.outs over.1
]

pub returns : goal.returns
returns c =
    let work_fits = c.if-works-gt-WORK.false in
    let room_fits = c.if-outs-gt-WORK.false in
    lent_recorded _ _ c.args.works c.args.outs work_fits room_fits (equal_part work_words 7 c.args.works work_fits)
    (equal_part work_words 7 c.args.outs room_fits) c.answered.ensures
