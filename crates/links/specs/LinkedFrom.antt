-- The rows that are linked.
use Rattle.std.specs.Prelude.{ℕ, ◌≤◌}
use Rattle.links.specs.declared.LinkedRows.{LinkedRows}
use Rattle.links.specs.Links.{Inside}

-- row i is one of them
abbrev pub Has : LinkedRows → ℕ → Type 0
Has t i = (t.from ≤ i) × Inside t.rows.now i
