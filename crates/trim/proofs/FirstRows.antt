-- The first so many rows: how many they are, and which. Assumes nothing.
use mathlib.Core.Path.{◌≡◌}
use mathlib.Core.List.{List}
use Prim.Native.Nat.{ℕ, ◌<◌, ◌≤◌}
use native.Mathlib.Omega.{arith}
use lib.ListN.{length, take}
use Rattle.std.proofs.lemmas.List.{get_or-take, length-take-le}
use Rattle.statement.specs.declared.Row.{Row}
use Rattle.statement.specs.Rows.{RoomFor, empty, row_at, rows_from}
use Rattle.statement.proofs.RowsPut.{rows_frame}

module _ (rows : List Row) {count k : ℕ} (room : RoomFor rows count) where
  pub first_within : k < length (take count rows) → k < count
  first_within l = omega (arith, l, length-take-le count rows room)

  pub first_past : length (take count rows) ≤ k → count ≤ k
  first_past l = omega (arith, l, length-take-le count rows room)

  pub first_row : k < length (take count rows) → row_at (take count rows) k ≡ row_at rows k
  first_row l = get_or-take count rows k empty (first_within l)

-- and all of them, as whoever hands them on has them
pub first_rows : (rows : List Row) (count : ℕ) → RoomFor rows count →
    rows_from (take count rows) 0 (length (take count rows)) ≡ rows_from rows 0 count
first_rows rows count room =
    rw (length-take-le count rows room)
    (rows_frame rows (take count rows) count (λ j l. get_or-take count rows j empty l) 0 count (omega arith))
