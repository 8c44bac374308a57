-- Operations emitted part by part, as a loop emits them: some of a whole are emitted, the rest are to come. Assumes nothing.
use Prim.Native.Nat.{ℕ}
use mathlib.Core.Path.{◌≡◌, refl, sym, ap, ◌∙◌}
use mathlib.Core.List.{List, [], ◌++◌, append_assoc, append-nil}
use native.Mathlib.Omega.{arith}
use lib.ListN.{length, length-append}
use Rattle.definitions.specs.Operations.{Op, list_words}
use Rattle.emitters.specs.Emitted.{Emitted, AllEmitted, Room}
use Rattle.emitters.specs.declared.Output.{Output}
use Rattle.emitters.proofs.Emitting.{all_emitted, all_then}

pub record Part (whole rest : List Op) (old new : Output) : Type 0 where
  pub done : List Op
  pub split : whole ≡ done ++ rest
  pub emitted : AllEmitted done old new

-- at first none are emitted
pub part_none : (whole : List Op) (out : Output) → Part whole whole out out
unfolding list_words
part_none whole out =
    record { done = []; split = refl; emitted = record { same = refl; ends = omega arith; words = refl; few = omega arith } }

module _ {whole rest : List Op} {old new : Output} (part : Part whole rest old new) where
  -- the next of the rest are emitted
  pub part_more : {os rest' : List Op} {m : ℕ} {new' : Output} → rest ≡ os ++ rest'
      → Emitted os m new new' → Part whole rest' old new'
  part_more {os} {rest'} e x =
      record {
        done = part.done ++ os;
        split = part.split ∙ ap (λ (l : List Op). part.done ++ l) e ∙ sym (append_assoc part.done os rest');
        emitted = all_then part.emitted x;
      }

  -- the rest have room where the whole has
  pub part_room : Room whole old.at → Room rest new.at
  part_room room =
      let lengths = ap length part.split ∙ length-append part.done rest in
      omega (arith, part.emitted.ends)

  -- and so have the next of them
  pub part_next : (os rest' : List Op) → rest ≡ os ++ rest' → Room whole old.at → Room os new.at
  part_next os rest' e room = omega (arith, part_room room, ap length e, length-append os rest')

  -- with nothing left to come all are emitted
  pub part_whole : rest ≡ [] → AllEmitted whole old new
  part_whole e =
      all_emitted (part.split ∙ ap (λ (l : List Op). part.done ++ l) e ∙ append-nil part.done) part.emitted
