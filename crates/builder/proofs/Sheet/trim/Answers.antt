-- With sharing off the sheet's own rows are trimmed.
use Rattle.block.proofs.Plain.{plain_rows}
use Rattle.builder.proofs.FirstStep.{room_left, sheet_trims}
use Rattle.builder.proofs.Sheet.trim.Goals as goal

pub trim_rows-requires-clause-handed : goal.trim_rows-requires-clause-handed
trim_rows-requires-clause-handed c =
    let plain = rw c.args.self.now.counted at (plain_rows c.args.self.now.sheet.held c.requires.marks) in
    plain.handed

pub trim_rows-requires-clause-room : goal.trim_rows-requires-clause-room
trim_rows-requires-clause-room c =
    let plain = rw c.args.self.now.counted at (plain_rows c.args.self.now.sheet.held c.requires.marks) in
    room_left c.args.memory.now.trimmed.now plain c.requires.room

pub returns-then-not-self-clause-trimmed : goal.returns-then-not-self-clause-trimmed
returns-then-not-self-clause-trimmed c =
    let plain = rw c.args.self.now.counted at (plain_rows c.args.self.now.sheet.held c.requires.marks) in
    sheet_trims _ _ _ _ (rw c.if-not-self.true plain) _ _ c.trim_rows.ensures.trimmed
