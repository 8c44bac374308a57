-- Trees as their marks show them: numbers of their nodes.
use Rattle.std.specs.Prelude.{ℕ}
use Rattle.node.specs.Views.{seen, view}
use Rattle.ershov.specs.Number.{Numbered, Known}
use Rattle.ershov.specs.declared.Trees.{Trees}

-- of node i as its mark has it, and without its mark
abbrev pub ViewNumbered : Trees → (i r : ℕ) → Type 0
ViewNumbered t i r = Numbered (λ temporary. view temporary t.nodes.words.now t.marks.now.words i) r

abbrev pub SeenNumbered : Trees → (i r : ℕ) → Type 0
SeenNumbered t i r = Numbered (λ temporary. seen temporary t.nodes.words.now t.marks.now.words i) r

-- node i lies in their words with its sides, and each node of its tree has its number
abbrev pub KnownNode : Trees → (i : ℕ) → Type 0
KnownNode t i = Known t.nodes.words.now t.marks.now.words t.numbers.now i
