-- The last row of the chain may be asked; and once the chain ends, what was found is found among all rows.
use Rattle.std.proofs.Common.{ap}
use Rattle.limits.specs.Words.{word_of}
use Rattle.calls.proofs.Search.{chain_asked, chain_ends}
use Rattle.calls.proofs.Trimmer.seek.Goals as goal

pub hits-requires : goal.hits-requires
hits-requires c = chain_asked c.loop-link.invariant _ (ap word_of c.in-Some.is) c.requires.room

pub returns : goal.returns
returns c = chain_ends c.loop-link.invariant (ap word_of c.in_default.is)
