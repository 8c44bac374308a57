-- The Ershov numbers of a table, filled in from its last node to its first. Assumes nothing.
use mathlib.Core.Path.{◌≡◌, refl, ◌∙◌}
use mathlib.Core.List.{List}
use Prim.Native.Nat.{ℕ, ◌+◌, ◌-◌, ◌<◌, ◌≤◌}
use native.Mathlib.Omega.{arith}
use lib.ListN.{length, length-set, set}
use Rattle.definitions.specs.Tree.{Tree, constant, variable, one, two, ershov, depth}
use Rattle.definitions.proofs.Evaluation.{join_covers}
use Rattle.node.specs.declared.Node.{Node}
use Rattle.node.specs.declared.Node.TheVariants.{Const, Var, Unary, Binary}
use Rattle.node.specs.Nodes.{node_at, node_tree, tree, Table}
use Rattle.node.specs.Sides.{Sides}
use Rattle.node.proofs.Nodes.{tree_depth}
use Rattle.node.proofs.Sides.{sides_more}
use Rattle.ershov.specs.Number.{node_ershov}
use Rattle.numbers.specs.Filled.{at, Filled, LowSide}
use Rattle.numbers.proofs.TableSides.{Between, tree_node, sides_between}
use Rattle.numbers.proofs.Filling.{filled_more}

-- a tree needs at most a register a level
ershov_depth : (t : Tree) → ershov t ≤ depth t
unfolding ershov depth
ershov_depth (constant k) = omega arith
ershov_depth (variable p) = omega arith
ershov_depth (one o a) = omega (arith, ershov_depth a)
ershov_depth (two o l r) = omega (arith, ershov_depth l, ershov_depth r, join_covers (ershov l) (ershov r))

by_sides : (f : ℕ → ℕ) (T : ℕ → Tree) (P : ℕ → Type 0) → ((a : ℕ) → P a → f a ≡ ershov (T a)) →
    (i : ℕ) (x : Node) → Sides P (i + 1) x → node_ershov f (i + 1) x ≡ ershov (node_tree T i x)
unfolding ershov Sides
by_sides f T P h i (Const k) s = refl
by_sides f T P h i (Var p) s = refl
by_sides f T P h i (Unary o) s = h (i + 1) s
by_sides f T P h i (Binary o r) s = rw (h (i + 1) s.0, h r s.1)

-- the nodes from i on have their numbers
pub record FilledFrom (ws es : List ℕ) (i n : ℕ) : Type 0 where
  pub upto : i ≤ n
  pub long : length es ≡ n
  pub filled : Filled ershov ws es i n

-- the node before them
module _ {ws es : List ℕ} {i n : ℕ} {x : Node} (g : FilledFrom ws es i n) (p : 0 < i) (t : Table ws n)
    (e : x ≡ node_at ws (i - 1)) where
  below : i - 1 < n
  below = omega (arith, g.upto)

  after : (j : ℕ) → Between (i - 1) n j → at es j ≡ ershov (tree ws j)
  after j b = g.filled j (omega (arith, b.after)) b.below

  low_side : (a : ℕ) → Between (i - 1) n a → LowSide es a
  low_side a b =
      record {
        inside = omega (arith, b.below, g.long);
        low = omega (arith, after a b, ershov_depth (tree ws a), tree_depth ws a (t.laid a b.below));
      }

  pub sides_low : Sides (LowSide es) (i - 1 + 1) x
  sides_low = rw e (sides_more (Between (i - 1) n) (LowSide es) low_side (i - 1 + 1) (node_at ws (i - 1)) (sides_between t (i - 1) below))

  number_told : node_ershov (at es) (i - 1 + 1) x ≡ ershov (tree ws (i - 1))
  number_told =
      rw (e, tree_node t (i - 1) below)
      (by_sides (at es) (tree ws) (Between (i - 1) n) after (i - 1) (node_at ws (i - 1)) (sides_between t (i - 1) below))

  pub number_more : {v : ℕ} → v ≡ node_ershov (at es) (i - 1 + 1) x → FilledFrom ws (set es (i - 1) v) (i - 1) n
  number_more {v} q =
      record {
        upto = omega (arith, below);
        long = simp length-set g.long;
        filled = filled_more ershov ws es (i - 1) n v (omega (arith, below, g.long)) (q ∙ number_told)
            (λ j h l. after j (record { after = h; below = l }));
      }
