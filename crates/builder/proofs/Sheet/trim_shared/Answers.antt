-- Sharing leaves rows that trimming takes.
use Rattle.builder.proofs.FirstStep.{sheet_trims}
use Rattle.builder.proofs.Sheet.trim_shared.Goals as goal

pub returns-clause-trimmed : goal.returns-clause-trimmed
returns-clause-trimmed g c =
    let shared = rw c.args.self.now.counted at c.eliminate-e.ensures in
    sheet_trims _ _ _ _ (rw c.requires.sharing shared) _ _ c.trim_rows.ensures.trimmed
