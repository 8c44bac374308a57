-- What is asked of rows of statements, row by row.
use Rattle.std.specs.Prelude.{ℕ, ◌+◌, ◌<◌, List, [], ◌∷◌}
use Rattle.statement.specs.declared.Row.{Row}
use Rattle.statement.specs.declared.Row.TheVariants.{Given, Copied, Kept, Passed, Made}

unfoldable pub All : (Row → Type 0) → List Row → Type 0
All P [] = Unit {0}
All P (r ∷ rs) = P r × All P rs

-- what is asked of a row's root, where it has one
abbrev pub OnRoot : (ℕ → Type 0) → Row → Type 0
OnRoot P (Given place root) = P root
OnRoot P (Copied place k) = Unit {0}
OnRoot P (Kept m root) = P root
OnRoot P (Passed m k) = Unit {0}
OnRoot P (Made m root link key) = P root

-- and of the root of a sheet's statement
abbrev pub OnGiven : (ℕ → Type 0) → Row → Type 0
OnGiven P (Given place root) = P root
OnGiven P (Copied place k) = Unit {0}
OnGiven P (Kept m root) = Unit {0}
OnGiven P (Passed m k) = Unit {0}
OnGiven P (Made m root link key) = Unit {0}

-- a row that makes no call
abbrev pub Unmade : Row → Type 0
Unmade (Given place root) = Unit {0}
Unmade (Copied place k) = Unit {0}
Unmade (Kept m root) = Unit {0}
Unmade (Passed m k) = Unit {0}
Unmade (Made m root link key) = ⊥

-- a row's temporaries have numbers below the next one
abbrev pub NumberedBelow : (next : ℕ) → Row → Type 0
NumberedBelow next (Given place root) = Unit {0}
NumberedBelow next (Copied place k) = k < next
NumberedBelow next (Kept m root) = m < next
NumberedBelow next (Passed m k) = (m < next) × (k < next)
NumberedBelow next (Made m root link key) = m < next

-- rows that a row of sharing takes with trimming, beside those of its marks: a kept tree may be a call, which has a row of its own
abbrev pub spend : Row → ℕ
spend (Given place root) = 1
spend (Copied place k) = 1
spend (Kept m root) = 2
spend (Passed m k) = 1
spend (Made m root link key) = 1

unfoldable pub spent : List Row → ℕ
spent [] = 0
spent (r ∷ rs) = spend r + spent rs
