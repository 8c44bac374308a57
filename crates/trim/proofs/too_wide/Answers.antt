-- Each row lies among the nodes, and the check of all is that some row is wide.
use Rattle.std.proofs.Common.{rules, true, false}
use Rattle.std.proofs.lemmas.Iterator.{YieldsList-from_slice, cases_from_any}
use Rattle.std.proofs.lemmas.Iterator.Adapters.{serves_from_places}
use Rattle.trim.specs.Wide.{WideRow}
use Rattle.trim.proofs.Wide.{any_wide, row_placed}
use Rattle.trim.proofs.too_wide.Goals as goal

pub any-requires-clause-callable : goal.any-requires-clause-callable
any-requires-clause-callable c =
    serves_from_places (YieldsList-from_slice c.args.rows.now cc) (λ x q k. search rules)
    (λ x k l e. let placed = row_placed _ _ x.now _ c.requires l e in search rules)

pub returns : goal.returns
returns c =
    let ws = c.args.trees.now.nodes.words.now in
    let ms = c.args.trees.now.marks.now.words in
    let scratch = c.args.scratch in
    let answer = cases_from_any _ _ _ (λ row. WideRow ws ms scratch row true) (λ row. WideRow ws ms scratch row false)
    c.any.ensures.ran (YieldsList-from_slice c.args.rows.now cc) (λ x q k. search rules) (λ x q k. search rules) in
    any_wide ws ms c.args.rows.now scratch _ answer
