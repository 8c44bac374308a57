-- That a sheet was read is a proposition, as a ghost field asks.
use Rattle.std.proofs.Common.{ℕ, List}
use Rattle.std.proofs.Props.{props}
use Rattle.statement.specs.declared.Row.{Row}
use Rattle.statement.specs.Handover.{SheetHeld}
use Rattle.node.specs.Propositions.{table_prop}

pub held_prop : (ws : List ℕ) (rows : List Row) (n count : ℕ) → IsProp (SheetHeld ws rows n count)
held_prop ws rows n count = Prim.hlevel (table_prop, props)
