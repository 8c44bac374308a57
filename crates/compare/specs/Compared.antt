-- Trees of a table as their marks show them: what a comparison of two needs, and what it answers.
use Rattle.std.specs.Prelude.{Bool, ℕ}
use Rattle.operation.specs.declared.Two.{Two}
use Rattle.compare.specs.Comparison.{TwoTrees, FourSides, SameSeen, SameView, BothViews, SideViews}
use Rattle.compare.specs.declared.Trees.{Trees}

-- nodes a and b may be compared, and the sides l and r with x and y
abbrev pub NodesReady : Trees → (a b : ℕ) → Type 0
NodesReady t a b = TwoTrees t.nodes.words.now a b

abbrev pub SidesReady : Trees → (l r x y : ℕ) → Type 0
SidesReady t l r x y = FourSides t.nodes.words.now l r x y

-- nodes without their own marks, and with them
abbrev pub SeenCompared : Trees → (a b : ℕ) → Bool → Type 0
SeenCompared t a b z = SameSeen t.nodes.words.now t.marks.now.words a b z

abbrev pub ViewsCompared : Trees → (a b : ℕ) → Bool → Type 0
ViewsCompared t a b z = SameView t.nodes.words.now t.marks.now.words a b z

-- sides left with left and right with right; or exchanged where the operator allows it
abbrev pub BothCompared : Trees → (l r x y : ℕ) → Bool → Type 0
BothCompared t l r x y z = BothViews t.nodes.words.now t.marks.now.words l r x y z

abbrev pub SidesCompared : Trees → Two → (l r x y : ℕ) → Bool → Type 0
SidesCompared t o l r x y z = SideViews t.nodes.words.now t.marks.now.words o l r x y z
