-- A root is trimmed with its mark, or without it if sharing kept its tree.
use Rattle.trim.proofs.RowTrimming.{given_trimmed, kept_trimmed}
use Rattle.trim.proofs.trim_root.Goals as goal

pub returns-in-Given-clause-trimmed : goal.returns-in-Given-clause-trimmed
returns-in-Given-clause-trimmed c = given_trimmed c.requires c.in-Given.is c.trim.ensures.trimmed

pub returns-in-Kept-clause-trimmed : goal.returns-in-Kept-clause-trimmed
returns-in-Kept-clause-trimmed c = kept_trimmed c.requires c.in-Kept.is _ c.trim_node.ensures.trimmed
