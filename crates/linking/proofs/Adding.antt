-- One row more, by its words: its tree, and the trees after it as before. Assumes nothing.
use mathlib.Core.Path.{◌≡◌, ◌∙◌}
use mathlib.Core.List.{List, []}
use Prim.Native.Nat.{ℕ, ◌+◌, ◌*◌, ◌<◌}
use native.Mathlib.Omega.{arith}
use lib.ListN.{length}
use lib.Seq.{sets, length-sets}
use Rattle.tidying.proofs.StoreRuns.{get_d_sets_above}
use Rattle.definitions.specs.Tree.{Tree}
use Rattle.node.specs.declared.Node.{Node}
use Rattle.node.specs.Nodes.{node_words, node_at, end_at}
use Rattle.node.specs.Sized.{SizedNode}
use Rattle.node.proofs.Nodes.{equal_or}
use Rattle.node.proofs.Stores.{Has, sets_have}
use Rattle.node.proofs.Laying.{node_words_back, node_packed}
use Rattle.node.specs.Sides.{Sides, tree_over}
use Rattle.node.proofs.Sides.{sides_more}
use Rattle.links.specs.Links.{linked, Inside, Links}
use Rattle.links.proofs.Links.{over, linked_node, Kept, links_kept, linked_kept}
use Rattle.linking.specs.Rows.{Free, Added}

-- rows that come after row i
abbrev pub After : (rows : List ℕ) (i j : ℕ) → Type 0
After rows i j = (i < j) × Inside rows j

module _ {rows : List ℕ} {i : ℕ} (free : Free rows i) (m : Node) (sized : SizedNode m) (left : ℕ)
    (sides : Sides (After rows i) left m) where
  abbrev put : List ℕ
  put = node_words m left

  abbrev after : List ℕ
  after = sets rows (4 * i) put

  whole : length after ≡ length rows
  whole = length-sets rows (4 * i) put

  has : Has after (4 * i) put
  has = sets_have put rows (4 * i) (omega (arith, free.inside))

  node_is : node_at after i ≡ m
  node_is = (node_words_back after [] i m left sized has).0

  end_is : end_at after i ≡ left
  end_is = (node_words_back after [] i m left sized has).1

  kept : Kept rows after (i + 1)
  kept = record { whole = whole; words = λ k a. get_d_sets_above put rows (4 * i) k 0 (omega arith) }

  links : Links after i
  links =
      let later = links_kept free.links kept in
      record {
        few = later.few;
        rises = λ j a b. equal_or j i (λ e. rw (e, node_is, end_is, whole) sides) (λ e. later.rises j (omega (arith, e)) b);
        packed = λ j a b. equal_or j i
            (λ e. rw e (node_packed after [] i m left sized has))
            (λ e. later.packed j (omega (arith, e)) b);
      }

  tree_is : linked after i ≡ tree_over (linked rows) left m
  tree_is =
      linked_node links i (omega arith) (omega (arith, whole, free.inside)) ∙ rw (node_is, end_is)
      (over (linked after) (linked rows) left m
      (sides_more (After rows i) _ (λ j h. linked_kept free.links kept j (omega arith) h.1) left m sides))

  pub row_added : {t : Tree} {rows' : List ℕ} → tree_over (linked rows) left m ≡ t → rows' ≡ after → Added rows rows' i t
  row_added e stored =
      rw stored
      record {
        whole = whole;
        links = links;
        tree = tree_is ∙ e;
        others = λ j a b. linked_kept free.links kept j (omega arith) b;
      }
