-- Trees of a table as their marks show them: the mixes of their nodes.
use Rattle.std.specs.Prelude.{ℕ}
use Rattle.compare.specs.Comparison.{Comparable}
use Rattle.compare.specs.declared.Trees.{Trees}
use Rattle.keys.specs.Keys.{MarksLow, SeenMix, ViewMix}

-- node i may be mixed
abbrev pub MixReady : Trees → (i : ℕ) → Type 0
MixReady t i = Comparable t.nodes.words.now i × MarksLow t.marks.now.words

-- r is its mix without its own mark, and with it
abbrev pub SeenMixed : Trees → (i r : ℕ) → Type 0
SeenMixed t i r = SeenMix t.nodes.words.now t.marks.now.words i r

abbrev pub ViewMixed : Trees → (i r : ℕ) → Type 0
ViewMixed t i r = ViewMix t.nodes.words.now t.marks.now.words i r
