-- The next node to get a class: its comparison with later ones, and its search for its class.
use Rattle.std.specs.Prelude.{Bool, List, ℕ, suc, ◌<◌, length}
use Rattle.definitions.specs.Same.{same}
use Rattle.node.specs.Nodes.{tree}
use Rattle.classes.specs.Classes.{Linked, ClassFor}
use Rattle.classes.specs.declared.NextNode.{NextNode}

module _ (x : NextNode) where
  -- node j comes after it
  abbrev pub Later : (j : ℕ) → Type 0
  Later j = (x.i < j) × (j < length x.cs.now)

  -- is its tree that of node j
  abbrev pub same_tree : (j : ℕ) → Bool
  same_tree j = same (tree x.nodes.words.now x.i) (tree x.nodes.words.now j)

  -- r is a class for it
  abbrev pub ClassFound : (r : ℕ) → Type 0
  ClassFound r = ClassFor x.nodes.words.now x.cs.now x.i (length x.cs.now) r

  -- all later nodes stand in the index, and it does too
  abbrev pub LaterLinked : (links : List ℕ) → Type 0
  LaterLinked links = Linked x.nodes.words.now links (suc x.i) (length x.cs.now)

  abbrev pub NodeLinked : (links : List ℕ) → Type 0
  NodeLinked links = Linked x.nodes.words.now links x.i (length x.cs.now)
