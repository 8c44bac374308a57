-- The rows with a new one, for a node of the table: their trees are the tidied ones. Assumes nothing.
use mathlib.Core.Path.{◌≡◌, refl, sym, ap, ap₂, ◌∙◌}
use mathlib.Core.Bool.{Bool, false}
use mathlib.Core.List.{List}
use Prim.Native.Nat.{ℕ, ◌+◌, ◌*◌, ◌<◌, ◌≤◌}
use native.Mathlib.Omega.{arith}
use lib.Seq.{sets}
use Rattle.definitions.specs.Tree.{Tree, one}
use Rattle.tidying.specs.Units.{units_of}
use Rattle.tidying.specs.Tidy.{Units, joined, tidy}
use Rattle.node.specs.declared.Node.{Node}
use Rattle.node.specs.declared.Node.TheVariants.{Const, Var, Unary as UnaryNode, Binary as BinaryNode}
use Rattle.node.specs.Nodes.{node_words, node_at, node_tree, tree}
use Rattle.node.proofs.Nodes.{equal_or, tree_node, table_sides}
use Rattle.node.specs.Sides.{Sides, tree_over}
use Rattle.node.proofs.Sides.{sides_more, lies_sides}
use Rattle.node.proofs.Heads.{over_next}
use Rattle.links.specs.Links.{linked, Inside}
use Rattle.links.proofs.Links.{over}
use Rattle.links.specs.declared.LinkedRows.{LinkedRows}
use Rattle.linking.specs.declared.NewRow.{NewRow}
use Rattle.linking.specs.NewRows.{joined_node, Joins}
use Rattle.linking.specs.Rows.{Free, Added, Tidied, Entered}
use Rattle.linking.proofs.Adding.{After, row_added}

-- a node's tree over tidied sides, tidied
joined_tidied : (u : Units) (f g : ℕ → Tree) (i : ℕ) (m : Node) → Sides (λ j. f j ≡ tidy u (g j)) (i + 1) m
    → joined_node u f (i + 1) m ≡ tidy u (node_tree g i m)
unfolding tidy Sides
joined_tidied u f g i (Const k) h = refl
joined_tidied u f g i (Var p) h = refl
joined_tidied u f g i (UnaryNode o) h = ap (one o) h
joined_tidied u f g i (BinaryNode o right) h = ap₂ (joined u o) h.0 h.1

-- what tells the trees of the later rows, and of the added one, tells those from it on
from_added : {rows rows' : List ℕ} {i : ℕ} {t : Tree} (T : ℕ → Tree) → Added rows rows' i t → t ≡ T i
    → ((j : ℕ) → i + 1 ≤ j → Inside rows j → linked rows j ≡ T j)
    → (j : ℕ) → i ≤ j → Inside rows' j → linked rows' j ≡ T j
from_added {rows} {i = i} T added e later j a b =
    let was_inside : Inside rows j = omega (arith, added.whole) in
    equal_or j i (λ q. rw q (added.tree ∙ e))
    (λ q. added.others j (omega (arith, q)) was_inside ∙ later j (omega (arith, q)) was_inside)

-- the sides of node i come after it
module _ {values ws rows : List ℕ} (i : ℕ) (done : Tidied values ws rows (i + 1)) (inside : Inside rows i) {x : Node}
    (unpacked : x ≡ node_at ws i) where
  node_below : i < done.nodes
  node_below = omega (arith, done.whole)

  tree_is : tree ws i ≡ node_tree (tree ws) i x
  tree_is = rw unpacked (tree_node ws i (done.table.laid i node_below))

  sides_after : Sides (After rows i) (i + 1) x
  sides_after =
      rw unpacked
      (sides_more (λ j. (i < j) × (j < done.nodes)) (After rows i) (λ j h. (h.0, omega (arith, done.whole))) (i + 1) (node_at ws i)
      (lies_sides (λ j. (i < j) × (j < done.nodes)) ws i (node_at ws i) (table_sides ws done.nodes done.table i node_below)))

  pub sides_linked : Sides (λ j. (i + 1 ≤ j) × Inside rows j) (i + 1) x
  sides_linked = sides_more (After rows i) _ (λ j h. (omega (arith, h.0), h.1)) (i + 1) x sides_after

-- its row is made from the rows after it
module _ {t : LinkedRows} {values ws : List ℕ} (i : ℕ) {x : Node} {made : NewRow × Bool}
    (joins : Joins t values x (i + 1) made) (next : t.from ≡ i + 1)
    (done : Tidied values ws t.rows.now (i + 1)) (inside : Inside t.rows.now i)
    (unpacked : x ≡ node_at ws i) {rows' : List ℕ} (stored : rows' ≡ sets t.rows.now (4 * i) (node_words made.0.node made.0.left))
  where
    abbrev rows : List ℕ
    rows = t.rows.now

    abbrev u : Units
    u = units_of values

    free : Free rows i
    free = record { links = done.links; inside = inside }

    row_sides : Sides (After rows i) made.0.left made.0.node
    row_sides = sides_more _ (After rows i) (λ j h. (omega (arith, h.0, next), h.1)) made.0.left made.0.node joins.makes.sides

    pub added : Added rows rows' i (joined_node u (linked rows) (i + 1) x)
    added = row_added free made.0.node joins.makes.sized made.0.left row_sides joins.makes.tree stored

    -- what the trees of its sides are
    side_trees : (T : ℕ → Tree) → ((j : ℕ) → i + 1 ≤ j → Inside rows j → linked rows j ≡ T j)
        → Sides (λ j. linked rows j ≡ T j) (i + 1) x
    side_trees T later =
        sides_more (After rows i) _ (λ j h. later j (omega (arith, h.0)) h.1) (i + 1) x (sides_after i done inside unpacked)

    tidied : Tidied values ws rows' i
    tidied =
        let whole = tree_is i done inside unpacked in
        let now = joined_tidied u (linked rows) (tree ws) i x (side_trees (λ j. tidy u (tree ws j)) done.trees) in
        record {
          nodes = done.nodes;
          table = done.table;
          whole = added.whole ∙ done.whole;
          links = added.links;
          trees = from_added (λ j. tidy u (tree ws j)) added (now ∙ sym (ap (tidy u) whole)) done.trees;
        }

    -- the node's own, where no rule fitted
    kept_tree : made.1 ≡ false → joined_node u (linked rows) (i + 1) x ≡ tree_over (linked rows) (i + 1) x
    kept_tree e =
        let same = joins.kept e in
        rw (same.0, same.1) at (sym joins.makes.tree)

    pub entered : Entered values ws rows rows' i made.1
    entered =
        record {
          whole = added.whole;
          tidied = tidied;
          others = added.others;
          kept = λ e later.
              let sides = over (linked rows) (tree ws) (i + 1) x (side_trees (tree ws) later.trees) in
              let as_read = sides ∙ sym (over_next (tree ws) i x) ∙ sym (tree_is i done inside unpacked) in
              record { trees = from_added (tree ws) added (kept_tree e ∙ as_read) later.trees };
        }
