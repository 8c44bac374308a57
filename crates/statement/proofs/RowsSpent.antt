-- The rows that are spent: at least one for each row, a row put spends its own, and row k with those after it. Assumes nothing.
use mathlib.Core.Path.{◌≡◌, refl, ap, ◌∙◌}
use mathlib.Core.List.{List, [], ◌∷◌, ◌++◌}
use Prim.Native.Nat.{ℕ, zero, suc, ◌+◌, ◌-◌, ◌<◌, ◌≤◌}
use native.Mathlib.Omega.{arith}
use lib.ListN.{set}
use Rattle.statement.specs.declared.Row.{Row}
use Rattle.statement.specs.declared.Row.TheVariants.{Given, Copied, Kept, Passed, Made}
use Rattle.statement.specs.Rows.{RoomFor, row_at, rows_from}
use Rattle.statement.specs.Rowing.{spend, spent}
use Rattle.statement.proofs.RowsPut.{rows_put}
use Rattle.statement.proofs.EveryRow.{rows_left}

pub row_spends : (r : Row) → 0 < spend r
row_spends (Given place root) = omega arith
row_spends (Copied place t) = omega arith
row_spends (Kept t root) = omega arith
row_spends (Passed t u) = omega arith
row_spends (Made t root link key) = omega arith

pub rows_spend : (rs : List Row) (k count : ℕ) → count ≤ spent (rows_from rs k count)
unfolding rows_from spent
rows_spend rs k zero = omega arith
rows_spend rs k (suc count) = omega (arith, row_spends (row_at rs k), rows_spend rs (k + 1) count)

spent_more : (rs : List Row) (r : Row) → spent (rs ++ (r ∷ [])) ≡ spent rs + spend r
unfolding spent
spent_more [] r = omega arith
spent_more (q ∷ rs) r = omega (arith, spent_more rs r)

pub put_spends : (rs : List Row) (c : ℕ) (r : Row) → RoomFor rs (c + 1) →
    spent (rows_from (set rs c r) 0 (c + 1)) ≡ spent (rows_from rs 0 c) + spend r
put_spends rs c r h = ap spent (rows_put rs c r h) ∙ spent_more (rows_from rs 0 c) r

pub spent_first : (rs : List Row) (count k : ℕ) → k < count →
    spent (rows_from rs k (count - k)) ≡ spend (row_at rs k) + spent (rows_from rs (k + 1) (count - (k + 1)))
unfolding spent
spent_first rs count k h = rw (rows_left rs count k h) refl
