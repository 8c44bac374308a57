-- A refusal that a `?` passes on. Assumes nothing.
use mathlib.Core.Path.{◌≡◌, ap, ◌∙◌}
use Rattle.std.specs.Prelude.{Result, Err}
use Rattle.std.specs.Result.{IsErr, IsErrAnd}
use Rattle.std.proofs.lemmas.Result.{err_from_is_err_and}
use Rattle.refusal.specs.declared.Refusal.{Refusal}

pub passed_on : {A : Type 0} {r : Result A Refusal} {e : Refusal} → IsErr r × IsErrAnd r (λ y. y ≡ e) → r ≡ Err e
passed_on {A} {r} {e} h = let p = err_from_is_err_and r h.1 in p.1 ∙ ap Err p.2
