-- A tree begins with the node that is read at its tag, and what is not refused is past no limit. Assumes nothing.
use Prim.Native.Nat.{ℕ, zero, suc, ◌-◌, ◌<◌}
use native.Mathlib.Omega.{arith}
use mathlib.Core.Bool.{Bool, true, false, cond, ◌&&◌}
use mathlib.Core.List.{List}
use mathlib.Core.Path.{◌≡◌, refl}
use lib.ListN.{length}
use lib.Dec.{ltb, leb}
use borrow.Author.Tests.{lt-ltb}
use Rattle.limits.specs.Limits.{node_limit, last_tag}
use Rattle.definitions.specs.Tree.{Tree}
use Rattle.definitions.specs.Sheet.{Read, bad, byte, TreeReader, tree_at}
use Rattle.node.specs.declared.Node.{Node}
use Rattle.places.specs.Heads.{head_at, head_tree}
use Rattle.places.proofs.Heads.{head_inside, by_test, tag_head_lem}
use Rattle.trees.specs.Reads.{head_within}

module _ (stable : Bool) (first : ℕ) (s : List ℕ) (at n left : ℕ) where
  abbrev below : ℕ → TreeReader
  below d a m = tree_at stable first d s a m

  abbrev known : Bool
  known = leb 1 (byte s at) && leb (byte s at) last_tag

  -- a known tag is asked for before the limits, or after them
  limits_last : (tree : TreeReader) (b w : Bool) (q : Read Node) (x : Read Tree) → cond b x (bad 5) ≡ head_tree tree q n
      → cond b (cond w x (bad 6)) (bad 5) ≡ head_tree tree (cond w q (cond b (bad 6) (bad 5))) n
  limits_last tree b true q x e = e
  limits_last tree true false q x e = refl
  limits_last tree false false q x e = refl

  pub node_tree_lem : tree_at stable first left s at n ≡ head_tree (below (left - 1)) (head_within stable first left s at n) n
  unfolding tree_at
  node_tree_lem = go left
    where
      go : (d : ℕ) → tree_at stable first d s at n ≡ head_tree (below (d - 1)) (head_within stable first d s at n) n
      go zero =
          by_test (below 0) stable first s at n (ltb at (length s)) _ _ (by_test (below 0) stable first s at n known _ _ refl refl) refl
      go (suc d) =
          let p : suc d - 1 ≡ d = omega arith in
          rw (p, lt-ltb 0 (suc d) (omega arith))
          (by_test (below d) stable first s at n (ltb at (length s)) _ _
          (limits_last (below d) known (ltb n node_limit) _ _ (tag_head_lem (below d) stable first s at n)) refl)

  -- within the limits a node is what stands at its tag
  pub node_within : 0 < left → n < node_limit → head_within stable first left s at n ≡ head_at stable first s at
  node_within h k = rw (lt-ltb 0 left h, lt-ltb n node_limit k) (head_inside stable first s at)
