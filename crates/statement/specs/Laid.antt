-- Statements one after the other as nodes and as rows.
use Rattle.std.specs.Prelude.{ℕ, ◌+◌, List, [], ◌∷◌, ◌++◌}
use Rattle.definitions.specs.Tree.{weight}
use Rattle.definitions.specs.Statement.{Statement, assign, call}
use Rattle.node.specs.Nodes.{layout}
use Rattle.statement.specs.declared.Row.{Row}
use Rattle.statement.specs.declared.Row.TheVariants.{Given}

-- the nodes of statements one after the other, from number n on
unfoldable pub statement_words : (n : ℕ) → List Statement → List ℕ
statement_words n [] = []
statement_words n (assign p t ∷ ss) = layout n t ++ statement_words (n + weight t) ss
statement_words n (call p c ∷ ss) = statement_words n ss

-- a row for each statement: its place, and the number of its tree's root
unfoldable pub statement_rows : (n : ℕ) → List Statement → List Row
statement_rows n [] = []
statement_rows n (assign p t ∷ ss) = Given p n ∷ statement_rows (n + weight t) ss
statement_rows n (call p c ∷ ss) = statement_rows n ss
