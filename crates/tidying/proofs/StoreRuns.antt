-- What stands after a run of stores. Assumes nothing.
use mathlib.Core.Path.{◌≡◌, refl, ◌∙◌}
use mathlib.Core.List.{List, [], ◌∷◌}
use Prim.Native.Nat.{ℕ, suc, ◌+◌, ◌≤◌}
use native.Mathlib.Omega.{arith}
use lib.ListN.{length, get_or, set}
use lib.Seq.{sets, get_or-set_other}

module _ {A : Type 0} where
  pub get_d_sets_above : (vs l : List A) (i j : ℕ) (d : A) → i + length vs ≤ j → get_or (sets l i vs) j d ≡ get_or l j d
  get_d_sets_above [] l i j d h = refl
  get_d_sets_above (v ∷ vs) l i j d h =
      get_d_sets_above vs (set l i v) (suc i) j d (omega arith) ∙ get_or-set_other l i j v d (λ e. omega arith)
