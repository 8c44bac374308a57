-- Laws of a statement's row: how it is closed by the mark of its root, and what it is read as. Assumes nothing.
use mathlib.Core.Path.{◌≡◌, refl, sym, ap}
use mathlib.Core.List.{List}
use Prim.Native.Nat.{ℕ, ◌<◌, ◌≤◌}
use native.Mathlib.Omega.{arith}
use Rattle.limits.specs.Words.{word_of}
use Rattle.std.proofs.Common.{Option, None, Some}
use Rattle.symbol.specs.declared.Loc.{Loc}
use Rattle.definitions.specs.Tree.{variable}
use Rattle.definitions.specs.Statement.{assign}
use Rattle.node.specs.Views.{masked, seen}
use Rattle.statement.specs.declared.Row.{Row}
use Rattle.statement.specs.declared.Row.TheVariants.{Given, Copied, Kept, Passed}
use Rattle.statement.specs.Rows.{row_statement}
use Rattle.statement.specs.Rowing.{OnRoot, Unmade, NumberedBelow}
use Rattle.trim.specs.Sheet.{closed}
use Rattle.trim.proofs.Calling.{masked_marked}

-- a row that assigns the tree of root i to a place
pub record TreeRow (row : Row) (i : ℕ) : Type 1 where
  pub place : (ℕ → Loc) → Loc
  pub whole : (temporary : ℕ → Loc) (ws ms : List ℕ) →
      row_statement temporary ws ms row ≡ assign (place temporary) (seen temporary ws ms i)
  pub shut : (r : Option ℕ) (temporary : ℕ → Loc) (ws ms : List ℕ) →
      row_statement temporary ws ms (closed row r) ≡ assign (place temporary) (masked temporary (word_of r) (seen temporary ws ms i))
  pub out : (P : ℕ → Type 0) → OnRoot P row → P i
  pub root : (r : Option ℕ) (P : ℕ → Type 0) → P i → OnRoot P (closed row r)
  pub low : (r : Option ℕ) (next : ℕ) → word_of r ≤ next → NumberedBelow next row → NumberedBelow next (closed row r)
  pub unmade : (r : Option ℕ) → Unmade (closed row r)

module _ (q : Loc) (i : ℕ) where
  given_shut : (r : Option ℕ) (temporary : ℕ → Loc) (ws ms : List ℕ) →
      row_statement temporary ws ms (closed (Given q i) r) ≡ assign q (masked temporary (word_of r) (seen temporary ws ms i))
  given_shut None temporary ws ms = refl
  given_shut (Some k) temporary ws ms = ap (assign q) (sym (masked_marked temporary (seen temporary ws ms i) k))

  given_root : (r : Option ℕ) (P : ℕ → Type 0) → P i → OnRoot P (closed (Given q i) r)
  given_root None P h = h
  given_root (Some k) P h = tt

  given_low : (r : Option ℕ) (next : ℕ) → word_of r ≤ next → NumberedBelow next (closed (Given q i) r)
  given_low None next l = tt
  given_low (Some k) next l = omega arith

  given_unmade : (r : Option ℕ) → Unmade (closed (Given q i) r)
  given_unmade None = tt
  given_unmade (Some k) = tt

  pub given_row : TreeRow (Given q i) i
  given_row =
      record {
        place = λ temporary. q;
        whole = λ temporary ws ms. refl;
        shut = given_shut;
        out = λ P h. h;
        root = given_root;
        low = λ r next l h. given_low r next l;
        unmade = given_unmade;
      }

module _ (m i : ℕ) where
  kept_shut : (r : Option ℕ) (temporary : ℕ → Loc) (ws ms : List ℕ) →
      row_statement temporary ws ms (closed (Kept m i) r)
      ≡ assign (temporary m) (masked temporary (word_of r) (seen temporary ws ms i))
  kept_shut None temporary ws ms = refl
  kept_shut (Some k) temporary ws ms = ap (assign (temporary m)) (sym (masked_marked temporary (seen temporary ws ms i) k))

  kept_root : (r : Option ℕ) (P : ℕ → Type 0) → P i → OnRoot P (closed (Kept m i) r)
  kept_root None P h = h
  kept_root (Some k) P h = tt

  kept_low : (r : Option ℕ) (next : ℕ) → word_of r ≤ next → m < next → NumberedBelow next (closed (Kept m i) r)
  kept_low None next l h = h
  kept_low (Some k) next l h = (h, omega arith)

  kept_unmade : (r : Option ℕ) → Unmade (closed (Kept m i) r)
  kept_unmade None = tt
  kept_unmade (Some k) = tt

  pub kept_row : TreeRow (Kept m i) i
  kept_row =
      record {
        place = λ temporary. temporary m;
        whole = λ temporary ws ms. refl;
        shut = kept_shut;
        out = λ P h. h;
        root = kept_root;
        low = kept_low;
        unmade = kept_unmade;
      }

-- a row that assigns a temporary to a place
pub record VariableRow (row : Row) : Type 1 where
  pub place : (ℕ → Loc) → Loc
  pub source : (ℕ → Loc) → Loc
  pub whole : (temporary : ℕ → Loc) (ws ms : List ℕ) →
      row_statement temporary ws ms row ≡ assign (place temporary) (variable (source temporary))
  pub root : (P : ℕ → Type 0) → OnRoot P row
  pub unmade : Unmade row

pub copied_row : (q : Loc) (k : ℕ) → VariableRow (Copied q k)
copied_row q k =
    record {
      place = λ temporary. q;
      source = λ temporary. temporary k;
      whole = λ temporary ws ms. refl;
      root = λ P. tt;
      unmade = tt;
    }

pub passed_row : (m k : ℕ) → VariableRow (Passed m k)
passed_row m k =
    record {
      place = λ temporary. temporary m;
      source = λ temporary. temporary k;
      whole = λ temporary ws ms. refl;
      root = λ P. tt;
      unmade = tt;
    }
