-- A text as it is written into lent bytes.
use Rattle.std.specs.Prelude.{ℕ, ◌+◌, ◌≤◌, List, ◌≡◌, length}
use Rattle.std.proofs.lemmas.List.Edits.{sets}
use Rattle.text.specs.declared.Text.{Text}

-- so many bytes more can be written
abbrev pub HasRoom : Text → ℕ → Type 0
HasRoom t n = t.len + n ≤ length t.bytes.now

-- the text new is old with xs after it, at most so many bytes, and the other bytes stay
pub record Adds (old : Text) (xs : List ℕ) (most : ℕ) (new : Text) : Type 0 where
  pub lent : new.bytes.ghost_name ≡ old.bytes.ghost_name
  pub whole : new.bytes.now ≡ sets old.bytes.now old.len xs
  pub after : new.len ≡ old.len + length xs
  pub room : length new.bytes.now ≡ length old.bytes.now
  pub within : length xs ≤ most
