-- The first step and then the second, of a sheet that was read.
use mathlib.Core.Path.{◌≡◌, refl}
use Prim.Native.Nat.{ℕ}
use mathlib.Core.List.{List}
use Rattle.statement.specs.declared.State.{State}
use Rattle.std.specs.Prelude.{Result, Ok, Err}
use Rattle.refusal.specs.declared.Refusal.{Refusal}
use Rattle.builder.specs.Compiled.{Answered}
use Rattle.builder.specs.declared.Sheet.{Sheet}
use Rattle.builder.specs.declared.Memory.{Memory}
use Rattle.builder.specs.Steps.{Listable, TrimsTo, ListsTo, CompilesTo}

module _ (b : Sheet) (m : Memory) {t : Result State Refusal} (trims : TrimsTo b m t) where
  module _ {s : State} (is : t ≡ Ok s) where
    step_trims : TrimsTo b m (Ok s)
    step_trims = rw is at trims

    pub step_listable : Listable b m s
    unfolding TrimsTo
    step_listable = step_trims.0

    pub steps_compile : (out out' : List ℕ) (r : Answered) → ListsTo b m s out out' r → CompilesTo b out out' r
    unfolding TrimsTo ListsTo CompilesTo
    steps_compile out out' r lists file read = rw (step_trims.1 file read) (lists file read.0)

  pub step_refused : {e : Refusal} → t ≡ Err e → (out out' : List ℕ) → CompilesTo b out out' (Err e)
  unfolding TrimsTo CompilesTo
  step_refused {e} is out out' file read =
      let refused : TrimsTo b m (Err e) = rw is at trims in
      rw (refused file read) refl

-- the second step after the first, or its refusal
pub ruleset second_step = (step_listable, steps_compile, step_refused)
