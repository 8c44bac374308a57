-- The Ershov numbers of a table, filled in from its last node to its first. Assumes nothing.
use mathlib.Core.Path.{◌≡◌}
use mathlib.Core.List.{List}
use Prim.Native.Nat.{ℕ, ◌≤◌}
use lib.ListN.{length}
use Rattle.limits.specs.Limits.{node_limit}
use Rattle.ershov.specs.Number.{Ershovs}

-- the nodes from i on have their numbers
pub record FilledFrom (ws ms es : List ℕ) (i n : ℕ) : Type 0 where
  pub upto : i ≤ n
  pub long : length es ≡ node_limit
  pub filled : Ershovs ws ms es i n
