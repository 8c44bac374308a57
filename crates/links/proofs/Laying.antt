-- The tree of a linked row laid as nodes: the node with its new sides, after those of its sides. Assumes nothing.
use mathlib.Core.Path.{◌≡◌, refl, ◌∙◌}
use mathlib.Core.List.{List}
use Prim.Native.Nat.{ℕ, ◌+◌, ◌-◌, ◌*◌, ◌<◌, ◌≤◌}
use native.Mathlib.Omega.{arith}
use lib.ListN.{length}
use lib.Seq.{sets}
use Rattle.limits.specs.Limits.{node_limit}
use Rattle.operation.specs.declared.One.{One}
use Rattle.operation.specs.declared.Two.{Two}
use Rattle.definitions.specs.Tree.{weight}
use Rattle.node.specs.declared.Node.{Node}
use Rattle.node.specs.declared.Node.TheVariants.{Unary as UnaryNode, Binary as BinaryNode}
use Rattle.node.specs.Sides.{Sides, IsLeaf, const, var, tree_over}
use Rattle.node.specs.Nodes.{node_words, node_at, end_at, layout}
use Rattle.node.proofs.Laying.{one_laid, two_laid}
use Rattle.links.specs.Links.{linked, Inside, Row, Fits, Lays}
use Rattle.links.proofs.Links.{row_side, row_tree, row_rises}

-- row i is the node x
pub record Read (rows : List ℕ) (i : ℕ) (x : Node) (left : ℕ) : Type 0 where
  pub tree : linked rows i ≡ tree_over (linked rows) left x
  pub sides : Sides (λ j. (i < j) × Inside rows j) left x

pub row_read : {rows : List ℕ} {i left : ℕ} {x z : Node} → Row rows i → x ≡ node_at rows i → left ≡ end_at rows i → x ≡ z
    → Read rows i z left
row_read row unpacked at_end told = rw (← told, unpacked, at_end) record { tree = row_tree row; sides = row_rises row }

module _ {rows : List ℕ} {i m : ℕ} (fits : Fits rows i m) where
  -- a side of the row, and what is left of the rows after it
  side_fits : (j n : ℕ) → (i < j) × Inside rows j → n + weight (linked rows j) ≤ node_limit
      → (length rows - j < length rows - i) × Fits rows j n
  side_fits j n side room = (omega arith, record { row = row_side j fits.row side; few = room })

  module _ {left : ℕ} where
    pub leaf_laid : {x : Node} → IsLeaf x → Read rows i x left → {ws ws' : List ℕ}
        → ws' ≡ sets ws (4 * m) (node_words x (m + 1)) → Lays rows i m ws ws' (m + 1)
    unfolding weight layout
    leaf_laid (const k) read put = record { ends = rw read.tree refl; words = put ∙ rw read.tree refl }
    leaf_laid (var p) read put = record { ends = rw read.tree refl; words = put ∙ rw read.tree refl }

    -- over one side
    module _ {o : One} (read : Read rows i (UnaryNode o) left) where
      pub unary_fits : (length rows - left < length rows - i) × Fits rows left (m + 1)
      unfolding weight Sides
      unary_fits = let few = rw read.tree at fits.few in side_fits left (m + 1) read.sides (omega arith)

      pub unary_laid : {ws ws₁ ws' : List ℕ} {end : ℕ} → Lays rows left (m + 1) ws ws₁ end
          → ws' ≡ sets ws₁ (4 * m) (node_words (UnaryNode o) end) → Lays rows i m ws ws' end
      unfolding weight
      unary_laid {ws} side put =
          record {
            ends = rw read.tree (omega (arith, side.ends));
            words = put ∙ rw (side.words, side.ends, read.tree) (one_laid o m (linked rows left) ws);
          }

    -- over two sides
    module _ {o : Two} {right : ℕ} (read : Read rows i (BinaryNode o right) left) where
      pub left_fits_lem : (length rows - left < length rows - i) × Fits rows left (m + 1)
      unfolding weight Sides
      left_fits_lem = let few = rw read.tree at fits.few in side_fits left (m + 1) read.sides.0 (omega arith)

      pub right_fits_lem : {mid : ℕ} → mid ≡ m + 1 + weight (linked rows left)
          → (length rows - right < length rows - i) × Fits rows right mid
      unfolding weight Sides
      right_fits_lem {mid} e = let few = rw read.tree at fits.few in side_fits right mid read.sides.1 (omega arith)

      pub binary_laid : {ws ws₁ ws₂ ws' : List ℕ} {mid end : ℕ}
          → Lays rows left (m + 1) ws ws₁ mid → Lays rows right mid ws₁ ws₂ end
          → ws' ≡ sets ws₂ (4 * m) (node_words (BinaryNode o mid) end) → Lays rows i m ws ws' end
      unfolding weight
      binary_laid {ws} first second put =
          record {
            ends = rw read.tree (omega (arith, first.ends, second.ends));
            words = put ∙ rw (second.words, first.words, second.ends, first.ends, read.tree)
                (two_laid o m (linked rows left) (linked rows right) ws);
          }
