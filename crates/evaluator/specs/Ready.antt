-- What evaluation counts on: marks whose temporaries are indexed.
use Rattle.std.specs.Prelude.{List, ℕ, ◌-◌, get_or}
use Rattle.header.specs.declared.Header.{Header}
use Rattle.header.specs.Settings.{Indexed}
use Rattle.node.specs.Nodes.{end_at}
use Rattle.node.specs.Views.{Marked}

-- the temporaries of the marks are indexed
abbrev pub MarksIndexed : Header → (ms : List ℕ) → Type 0
MarksIndexed h ms = (j : ℕ) → Marked ms j → Indexed h (get_or ms j 0 - 1)

-- how many nodes the tree of node i has
abbrev pub span : (ws : List ℕ) → ℕ → ℕ
span ws i = end_at ws i - i
