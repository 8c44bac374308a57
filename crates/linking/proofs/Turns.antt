-- The rows and their mixes turn by turn, from the last node to the first. Assumes nothing.
use mathlib.Core.Path.{◌≡◌, refl, sym, ap, ◌∙◌}
use mathlib.Core.Bool.{Bool, true, false, ◌||◌, false≢true}
use mathlib.Core.List.{List}
use Prim.Native.Nat.{ℕ, ◌+◌, ◌*◌, ◌<◌, ◌≤◌}
use native.Mathlib.Omega.{arith}
use lib.ListN.{length, set}
use lib.Seq.{sets}
use Rattle.node.specs.declared.Node.{Node}
use Rattle.node.specs.Nodes.{node_words, node_at}
use Rattle.mix.specs.Mix.{mix}
use Rattle.node.specs.Sides.{tree_over}
use Rattle.links.specs.Links.{Inside, linked}
use Rattle.links.specs.Mixes.{Mixed}
use Rattle.links.specs.declared.LinkedRows.{LinkedRows}
use Rattle.linking.specs.declared.NewRow.{NewRow}
use Rattle.linking.specs.NewRows.{Joins}
use Rattle.linking.specs.Rows.{Tidied, Kept}
use Rattle.linking.proofs.Mixes.{mixed_more}
use Rattle.linking.proofs.Rows.{added, entered}

-- the rows from row i on are done, with their mixes; unless changed is set, they have the trees as read
pub record LinkedFrom (values ws rows mx : List ℕ) (n i : ℕ) (changed : Bool) : Type 0 where
  pub tidied : Tidied values ws rows i
  pub whole : length rows ≡ 4 * n
  pub below : i ≤ n
  pub mixed : Mixed rows mx i
  pub kept : changed ≡ false → Kept ws rows i

neither : (a b : Bool) → (a || b) ≡ false → (a ≡ false) × (b ≡ false)
neither false b e = (refl, e)
neither true b e = absurd (false≢true (sym e))

-- the row of node i was made, with its mix m
module _ {t : LinkedRows} {values ws : List ℕ} {n : ℕ} (i : ℕ) {m : ℕ} {x : Node} {made : NewRow × Bool} {flag : Bool}
    (joins : Joins t values x (i + 1) made) (next : t.from ≡ i + 1) (unpacked : x ≡ node_at ws i) (less : i < n)
    (done : LinkedFrom values ws t.rows.now t.mixes.now n (i + 1) flag)
    (mixed : m ≡ mix (tree_over (linked t.rows.now) made.0.left made.0.node)) where
  inside : Inside t.rows.now i
  inside = omega (arith, done.whole)

  pub next_linked :
      LinkedFrom values ws (sets t.rows.now (4 * i) (node_words made.0.node made.0.left)) (set t.mixes.now i m) n i (flag || made.1)
  next_linked =
      let grown = added i joins next done.tidied inside unpacked refl in
      let entering = entered i joins next done.tidied inside unpacked refl in
      record {
        tidied = entering.tidied;
        whole = entering.whole ∙ done.whole;
        below = omega arith;
        mixed = mixed_more grown inside (mixed ∙ ap mix joins.makes.tree) done.mixed;
        kept = λ e. let both = neither flag made.1 e in entering.kept both.1 (done.kept both.0);
      }
