-- Demand 3, of the words that `zubmanger_compile` leaves in the output.
use mathlib.Core.Path.{◌≡◌, sym, ◌∙◌}
use Prim.Native.Nat.{ℕ, ◌*◌}
use mathlib.Core.List.{List}
use lib.ListN.{length, take}
use Rattle.definitions.specs.Demand.{RunsAsSheet}
use Rattle.definitions.proofs.Demand.{written_runs}
use Rattle.zubmanger.specs.declared.Numbers.{Numbers}
use Rattle.zubmanger.specs.Call.{Called}

pub called_runs : (file work work' out out' : List ℕ) (r : Numbers) → Called file work work' out out' r → r.number ≡ 0 →
    RunsAsSheet file (take (6 * r.ops) out') r.temps
called_runs file work work' out out' r c accepts =
    written_runs file (length work) (length out) c.bytes (sym c.number ∙ accepts) r.ops r.temps out'
    c.ops c.temps c.output
