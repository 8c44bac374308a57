-- The first rows are those that trimming put out.
use Rattle.trim.proofs.FirstRows.{first_rows}
use Rattle.builder.proofs.Sheet.is_too_wide.Goals as goal

pub trees-trees-requires : goal.trees-trees-requires
trees-trees-requires c = c.requires.numbers

pub rows-requires : goal.rows-requires
rows-requires c = c.requires.put.long

pub too_wide-requires : goal.too_wide-requires
too_wide-requires c =
    rw (c.trees-trees.ensures.nodes, c.rows.ensures, first_rows _ _ c.requires.put.long) c.requires.put.placed

pub returns : goal.returns
returns c =
    rw (c.trees-trees.ensures.nodes, c.trees-trees.ensures.marks, c.rows.ensures, first_rows _ _ c.requires.put.long) at c.too_wide.ensures
