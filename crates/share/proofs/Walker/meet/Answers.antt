-- The class tells which meeting it is.
use Rattle.std.proofs.Common.{arith, ap, not, ◌∙◌}
use Rattle.share.proofs.MeetingMarks.{room_more, light, first, second, later}
use Rattle.share.proofs.Marking.{mark_none, mark_some}
use Rattle.share.proofs.Walker.meet.Goals as goal

pub returns-then-weight_of-lt5-clause-walked : goal.returns-then-weight_of-lt5-clause-walked
returns-then-weight_of-lt5-clause-walked c = light c.args.self.now.ready c.requires.0 c.requires.1 (omega arith)

pub returns-then-not-met-at-clause-walked : goal.returns-then-not-met-at-clause-walked
returns-then-not-met-at-clause-walked c =
    first c.args.self.now.ready c.requires.0 c.requires.1 (omega arith) c.if-not-met-at.true

pub bounds-met-met : goal.bounds-met-met
bounds-met-met c =
    let unmarked = mark_none c.get.result c.get.ensures (c.is_none.ensures ∙ ap not c.if-is_none.true) in
    omega (arith, room_more c.args.self.now.ready c.requires.0 c.requires.1 unmarked, c.args.self.now.ready.table.few)

pub returns-then-is_none-clause-walked : goal.returns-then-is_none-clause-walked
returns-then-is_none-clause-walked c =
    let unmarked = mark_none c.get.result c.get.ensures (c.is_none.ensures ∙ ap not c.if-is_none.true) in
    second c.args.self.now.ready c.requires.0 c.requires.1 (omega arith) c.if-not-met-at.false unmarked c.set.ensures

pub returns-else-is_none-clause-walked : goal.returns-else-is_none-clause-walked
returns-else-is_none-clause-walked c =
    let marked = mark_some c.get.result c.get.ensures (c.is_none.ensures ∙ ap not c.if-is_none.false) in
    later c.args.self.now.ready c.requires.0 c.requires.1 (omega arith) c.if-not-met-at.false marked
