-- Rows that are read as before when marks change. Assumes nothing.
use mathlib.Core.Path.{◌≡◌, refl, sym, ap, ap₂, ◌∙◌}
use mathlib.Core.List.{List, [], ◌∷◌}
use Prim.Native.Nat.{ℕ, ◌<◌}
use native.Mathlib.Omega.{arith}
use lib.ListN.{get_or}
use Rattle.symbol.specs.declared.Loc.{Loc}
use Rattle.definitions.specs.Statement.{Statement}
use Rattle.node.specs.Nodes.{end_at, Table}
use Rattle.node.specs.Views.{seen}
use Rattle.node.proofs.Views.{seen_frame}
use Rattle.statement.specs.declared.Row.{Row}
use Rattle.statement.specs.declared.Row.TheVariants.{Given, Copied, Kept, Passed, Made}
use Rattle.statement.specs.Rows.{call_into, row_statement, statements_of}
use Rattle.statement.specs.Rowing.{All, OnRoot}
use Rattle.statement.proofs.EveryRow.{roots_both, roots_map}
use Rattle.trim.specs.Rowing.{InTree, Still}

pub roots_within : (ws : List ℕ) (n i : ℕ) (rs : List Row) → All (OnRoot (InTree ws n i)) rs → All (OnRoot (λ b. b < n)) rs
roots_within ws n i = roots_map (InTree ws n i) (λ b. b < n) (λ b k. k.1)

-- ---- rows that are read as before

module _ (temporary : ℕ → Loc) (ws ms ms' : List ℕ) where
  still_statement : (r : Row) → OnRoot (λ b. seen temporary ws ms' b ≡ seen temporary ws ms b) r →
      row_statement temporary ws ms' r ≡ row_statement temporary ws ms r
  still_statement (Given p b) h = rw h refl
  still_statement (Copied p k) h = refl
  still_statement (Kept m b) h = rw h refl
  still_statement (Passed m k) h = refl
  still_statement (Made m b link key) h = ap (call_into (temporary m)) h

  pub still_statements : (rs : List Row) → Still temporary ws ms ms' rs →
      statements_of temporary ws ms' rs ≡ statements_of temporary ws ms rs
  unfolding All statements_of
  still_statements [] h = refl
  still_statements (r ∷ rs) h =
      ap₂ (λ (s : Statement) (l : List Statement). s ∷ l) (still_statement r h.0) (still_statements rs h.1)

  -- the marks within the tree that the rows lie in are the same
  pub still_part : (n : ℕ) → Table ws n → (i : ℕ) →
      ((j : ℕ) → i < j → j < end_at ws i → get_or ms' j 0 ≡ get_or ms j 0) → (rs : List Row) →
      All (OnRoot (InTree ws n i)) rs → Still temporary ws ms ms' rs
  still_part n t i same rs h =
      roots_map (InTree ws n i) (λ b. seen temporary ws ms' b ≡ seen temporary ws ms b)
      (λ b k. seen_frame temporary ws ms ms' b (t.laid b k.1) (λ j u v. same j (omega (arith, k.0)) (omega (arith, k.2)))) rs h

-- read as before at each of two steps, and as from the first to the last
pub still_since : (temporary : ℕ → Loc) (ws ms ms' ms'' : List ℕ) (rs : List Row) → Still temporary ws ms ms' rs →
    Still temporary ws ms ms'' rs → Still temporary ws ms' ms'' rs
still_since temporary ws ms ms' ms'' rs h k = roots_both _ _ _ (λ b x y. y ∙ sym x) rs h k
