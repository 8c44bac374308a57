-- The letter, and the index after it.
use Rattle.std.proofs.Common.{arith, sym, ◌∙◌, ◌≡◌}
use Rattle.symbol.specs.Place.{index_of}
use Rattle.text.proofs.Texts.{adds_then, adds_within, place_text_lem}
use Rattle.text.proofs.Text.place.Goals as goal

pub returns-clause-adds : goal.returns-clause-adds
returns-clause-adds c =
    let both = adds_within 12 (omega arith) (adds_then c.push.ensures.adds c.decimal.ensures.adds) in
    let index : c.from.result ≡ index_of c.from-p.result = c.from.ensures ∙ c.index.ensures in
    place_text_lem (sym c.from-p.ensures) (rw (c.letter.ensures.text, ← index) both)
