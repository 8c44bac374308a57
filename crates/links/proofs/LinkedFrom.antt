-- The rows that are linked, as their struct's facts tell. Assumes nothing.
use mathlib.Core.Path.{◌≡◌}
use Prim.Native.Nat.{ℕ}
use Rattle.node.specs.Nodes.{node_at, end_at, Packed}
use Rattle.links.specs.declared.LinkedRows.{LinkedRows}
use Rattle.node.specs.Sides.{tree_over}
use Rattle.links.specs.Links.{linked, Row}
use Rattle.links.specs.LinkedFrom.{Has}
use Rattle.links.proofs.Links.{links_up, row_tree, row_packed}

module _ (t : LinkedRows) {i : ℕ} (has : Has t i) where
  pub row_of : Row t.rows.now i
  row_of = record { links = links_up i has.0 t.linked; inside = has.1 }

  pub tree_of : linked t.rows.now i ≡ tree_over (linked t.rows.now) (end_at t.rows.now i) (node_at t.rows.now i)
  tree_of = row_tree row_of

  pub packed_of : Packed t.rows.now i
  packed_of = row_packed row_of
