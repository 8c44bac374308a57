-- Where no rule fitted all is as it was; else the linked trees of the roots are the tidied ones, and light enough.
use Rattle.std.proofs.Common.{inl}
use Rattle.tidy.proofs.RootTrees.{sheet_linked, sheet_relaid}
use Rattle.tidy.proofs.tidy_rows.Goals as goal

pub lay_all-requires : goal.lay_all-requires
lay_all-requires g c = sheet_linked c.requires.held c.link.ensures.0 c.link.ensures.1

pub returns : goal.returns
returns g c = inl (sheet_relaid c.requires.held c.link.ensures.0 c.link.ensures.1 c.lay_all.ensures)
