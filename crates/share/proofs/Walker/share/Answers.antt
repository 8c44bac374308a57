-- All statements are walked, and all nodes have their marks.
use Rattle.share.proofs.PassSteps.{walked_shares}
use Rattle.share.proofs.Walker.share.Goals as goal

pub returns-clause-shares : goal.returns-clause-shares
returns-clause-shares c =
    let settled = rw c.args.self.now.sized at c.settle.ensures in
    walked_shares c.args.self.now.sheet.held c.requires c.walk_rows.ensures.walked settled
