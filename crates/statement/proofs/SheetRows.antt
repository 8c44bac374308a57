-- A row of those that a sheet was read into is a statement's, with its place and root; and those rows alone are the sheet's too.
use mathlib.Core.Path.{◌≡◌, refl, sym, ap, ◌∙◌}
use mathlib.Core.List.{List}
use Prim.Native.Nat.{ℕ, zero, suc, ◌+◌, ◌<◌, ◌≤◌}
use native.Mathlib.Omega.{arith}
use lib.ListN.{length, take}
use Rattle.std.proofs.Common.{Some, None}
use Rattle.std.proofs.lemmas.List.{get_or-take, length-take-le}
use Rattle.symbol.specs.declared.Loc.{Loc}
use Rattle.statement.specs.declared.Row.{Row}
use Rattle.statement.specs.declared.Row.TheVariants.{Given}
use Rattle.statement.specs.Rows.{empty, place_of, root_of, row_at, place_at, root_at, sheet_from}
use Rattle.statement.specs.Handover.{SheetHeld}

module _ {ws : List ℕ} {rows : List Row} {n count : ℕ} (held : SheetHeld ws rows n count) where
  module _ {j : ℕ} (h : j < count) where
    module _ {place : Loc} {root : ℕ} (e : row_at rows j ≡ Given place root) where
      pub row_place : place ≡ place_at rows j
      row_place = ap place_of (sym e ∙ held.given j h)

      pub row_root : root ≡ root_at rows j
      row_root = let g = held.given j h in cc

    row_rooted : root_of (row_at rows j) ≡ Some (root_at rows j)
    row_rooted = ap root_of (held.given j h)

    pub root_some : {root : ℕ} → Some root ≡ root_of (row_at rows j) → root ≡ root_at rows j
    root_some e = let r = row_rooted in cc

    pub root_none : None ≡ root_of (row_at rows j) → ⊥
    root_none e = let r = row_rooted in cc

  -- ---- the first count rows alone

  pub taken_length : length (take count rows) ≡ count
  taken_length = length-take-le count rows held.long

  taken_row : (j : ℕ) → j < count → row_at (take count rows) j ≡ row_at rows j
  taken_row j h = get_or-take count rows j empty h

  taken_place : (j : ℕ) → j < count → place_at (take count rows) j ≡ place_at rows j
  taken_place j h = ap place_of (taken_row j h)

  taken_root : (j : ℕ) → j < count → root_at (take count rows) j ≡ root_at rows j
  taken_root j h = rw (taken_row j h)

  pub taken_held : SheetHeld ws (take count rows) n (length (take count rows))
  taken_held =
      rw taken_length
      record {
        table = held.table;
        few = held.few;
        long = omega (arith, taken_length);
        given = λ j h. rw (taken_row j h) (held.given j h);
        roots = λ j h. rw (taken_root j h) (held.roots j h);
        order = λ i j l h. rw (taken_root i (omega arith), taken_root j h) (held.order i j l h);
        closed = λ j h. rw (taken_root j h) (held.closed j h);
      }

  taken_from : (j m : ℕ) → j + m ≤ count → sheet_from ws (take count rows) j m ≡ sheet_from ws rows j m
  unfolding sheet_from
  taken_from j zero h = refl
  taken_from j (suc m) h =
      rw (taken_place j (omega arith), taken_root j (omega arith), taken_from (j + 1) m (omega arith)) refl

  -- they are the same statements
  pub taken_sheet : sheet_from ws (take count rows) 0 (length (take count rows)) ≡ sheet_from ws rows 0 count
  taken_sheet = rw taken_length (taken_from 0 count (omega arith))
