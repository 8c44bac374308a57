-- Tidied trees fit a table as those that were read do. Assumes nothing.
use mathlib.Core.Path.{◌≡◌, refl}
use mathlib.Core.List.{List, [], ◌∷◌, map}
use Prim.Native.Nat.{ℕ, ◌≤◌}
use native.Mathlib.Omega.{arith}
use Rattle.operation.specs.Numbers.{unary_number, binary_number}
use Rattle.operation.specs.declared.Two.{Two}
use Rattle.definitions.specs.Tree.{Tree, constant, variable, one, two}
use Rattle.definitions.specs.Statement.{Statement, assign, call, source}
use Rattle.definitions.proofs.Settling.{AssignmentsOnly}
use Rattle.node.specs.Nodes.{weights}
use Rattle.node.specs.Sized.{SizedTree, SizedTrees}
use Rattle.node.proofs.Sizing.{AddsAll}
use Rattle.tidying.specs.Tidy.{Units, alone, Outcome, followed, tidy, tidied_all, nodes_of}
use Rattle.tidying.proofs.Rules.{Rule, none, minus_left, minus_right, one_left, one_right, recip_left, recip_right}
use Rattle.tidying.proofs.Rules.{conjugate_right, conjugate_left, over_recip, neg_left, neg_right, Kept, tidy_keeps}
use Rattle.tidying.proofs.TidyKeeps.{tidy_weight, tidy_depth}

module _ (u : Units) where
  alone_sized : (t : Tree) → SizedTree t → SizedTree (alone t)
  unfolding SizedTree unary_number
  alone_sized (constant i) h = (omega arith, h)
  alone_sized (variable p) h = h
  alone_sized (one o a) h = h
  alone_sized (two o l r) h = h

  rule_sized : {o : Two} {l r : Tree} {s : Outcome} → Rule u o l r s → SizedTree (two o l r) → SizedTree (followed two o l r s)
  unfolding SizedTree unary_number binary_number
  rule_sized (none o l r) h = h
  rule_sized (minus_left i r e) h = (omega arith, h.2)
  rule_sized (minus_right i l e) h = (omega arith, h.1)
  rule_sized (one_left i r e) h = alone_sized r h.2
  rule_sized (one_right i l e) h = alone_sized l h.1
  rule_sized (recip_left a r) h = (omega arith, h.2, h.1.1)
  rule_sized (recip_right l a) h = (omega arith, h.1, h.2.1)
  rule_sized (conjugate_right l a e) h = (omega arith, h.1)
  rule_sized (conjugate_left a r e) h = (omega arith, h.2)
  rule_sized (over_recip l a) h = (omega arith, h.1, h.2.1)
  rule_sized (neg_left a r) h = (omega arith, h.2, h.1.1)
  rule_sized (neg_right l a) h = (omega arith, h.1, h.2.1)

  sizes : Kept u (λ t s. SizedTree t → SizedTree s)
  unfolding SizedTree
  sizes =
      record {
        self = λ t h. h;
        chain = λ a b c f g h. g (f h);
        under1 = λ o a b f h. (h.0, f h.1);
        under2 = λ o l r x y f g h. (h.0, f h.1, g h.2);
        rule = λ h. rule_sized h;
      }

  pub tidy_sized : (t : Tree) → SizedTree t → SizedTree (tidy u t)
  tidy_sized t = tidy_keeps u (λ t s. SizedTree t → SizedTree s) sizes t

  pub tidied_sized : (ss : List Statement) → AssignmentsOnly ss → SizedTrees (map source ss) →
      SizedTrees (map source (tidied_all u ss))
  unfolding SizedTrees tidied_all AssignmentsOnly
  tidied_sized [] a h = tt
  tidied_sized (assign p t ∷ ss) a h = (tidy_sized t h.0, omega (arith, tidy_depth u t, h.1), tidied_sized ss a h.2)
  tidied_sized (call p c ∷ ss) a h = absurd a

  pub tidied_light : (ss : List Statement) → AssignmentsOnly ss → weights (map source (tidied_all u ss)) ≤ weights (map source ss)
  unfolding weights tidied_all AssignmentsOnly
  tidied_light [] a = omega arith
  tidied_light (assign p t ∷ ss) a = omega (arith, tidy_weight u t, tidied_light ss a)
  tidied_light (call p c ∷ ss) a = absurd a

pub nodes_are : (ss : List Statement) → nodes_of ss ≡ weights (map source ss)
unfolding nodes_of weights
nodes_are [] = refl
nodes_are (s ∷ ss) = omega (arith, nodes_are ss)

pub tidied_adds : (u : Units) (ss : List Statement) (n : ℕ) → AssignmentsOnly ss → AddsAll 0 ss n
    → AddsAll 0 (tidied_all u ss) (nodes_of (tidied_all u ss))
tidied_adds u ss n a h =
    record {
      trees = tidied_sized u ss a h.trees;
      count = omega (arith, nodes_are (tidied_all u ss));
      few = λ l. omega (arith, nodes_are (tidied_all u ss), tidied_light u ss a, h.count, h.few (omega arith));
    }
