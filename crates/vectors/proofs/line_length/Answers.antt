-- The line ends with the first newline.
use Rattle.std.proofs.Common.{◌≡◌, rules, tests}
use Rattle.std.specs.List.{position}
use Rattle.std.proofs.lemmas.Iterator.{YieldsList-from_slice}
use Rattle.std.proofs.lemmas.Iterator.Search.{position_from_yields_List}
use Rattle.vectors.proofs.Lines.{is_newline, line_found, line_missing}
use Rattle.vectors.proofs.line_length.Goals as goal

pub returns-in-Some-clause-value : goal.returns-in-Some-clause-value
returns-in-Some-clause-value c =
    let found : c.position.result ≡ position is_newline c.args.text.now =
    position_from_yields_List is_newline _ _ c.position.result c.position.ensures.ran
    (YieldsList-from_slice _ c.iter.ensures.rest) (λ x b q k. search (rules, tests)) in
    line_found c.args.text.now c.in-Some.i (cc)

pub returns-in-None-clause-value : goal.returns-in-None-clause-value
returns-in-None-clause-value c =
    let found : c.position.result ≡ position is_newline c.args.text.now =
    position_from_yields_List is_newline _ _ c.position.result c.position.ensures.ran
    (YieldsList-from_slice _ c.iter.ensures.rest) (λ x b q k. search (rules, tests)) in
    line_missing c.args.text.now (cc)
