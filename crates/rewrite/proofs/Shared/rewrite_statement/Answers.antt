-- The row says what is left of the statement's tree.
use Rattle.std.proofs.Common.{arith}
use Rattle.rewrite.proofs.Rewriting.{unmarked_by, marked_by, statement_given, statement_copied}
use Rattle.rewrite.proofs.Readiness.{more_left}
use Rattle.rewrite.proofs.Shared.rewrite_statement.Goals as goal

pub put-requires : goal.put-requires
put-requires c = more_left c.requires (c.rewrite_cse.ensures.stores _ _ c.requires.at.node) (omega arith)

pub put-requires-in-Some : goal.put-requires-in-Some
put-requires-in-Some c = more_left c.requires (c.rewrite_cse.ensures.stores _ _ c.requires.at.node) (omega arith)

pub returns-in-None-clause-puts : goal.returns-in-None-clause-puts
returns-in-None-clause-puts c =
    λ n texts a.
    let room = (more_left c.requires (c.rewrite_cse.ensures.stores _ _ c.requires.at.node) (omega arith)).0 in
    let inside = c.rewrite_cse.ensures.stores n texts a.node in
    statement_given a _ _ room inside (unmarked_by c.in-None.ensures) c.put.ensures.put

pub returns-in-Some-clause-puts : goal.returns-in-Some-clause-puts
returns-in-Some-clause-puts c =
    λ n texts a.
    let room = (more_left c.requires (c.rewrite_cse.ensures.stores _ _ c.requires.at.node) (omega arith)).0 in
    let inside = c.rewrite_cse.ensures.stores n texts a.node in
    let mark = marked_by c.in-Some.ensures in
    statement_copied a _ _ room inside mark.0 (rw mark.1 at c.put-in-Some.ensures.put)
