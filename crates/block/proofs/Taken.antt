-- Sharing over the sheet's own rows, of a slice that has more, is sharing over the sheet. Assumes nothing.
use mathlib.Core.Bool.{true}
use mathlib.Core.List.{List}
use Prim.Native.Nat.{ℕ}
use native.Mathlib.Omega.{arith}
use lib.ListN.{length, take}
use Rattle.statement.specs.declared.Row.{Row}
use Rattle.statement.specs.declared.State.{State}
use Rattle.statement.specs.Handover.{SheetHeld}
use Rattle.statement.proofs.SheetRows.{taken_length, taken_sheet}
use Rattle.block.specs.Sharing.{Eliminated}

pub taken_eliminated : {ws ms : List ℕ} {rows out : List Row} {n count : ℕ} {s : State} → SheetHeld ws rows n count →
    Eliminated true ws (take count rows) n (length (take count rows)) ms out s → Eliminated true ws rows n count ms out s
taken_eliminated held x =
    record {
      given = rw (taken_sheet held) at x.given;
      handed = x.handed;
      room = omega (arith, x.room, taken_length held);
      statements = λ temporary. rw (taken_sheet held) at (x.statements temporary);
    }
