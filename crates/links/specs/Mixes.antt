-- The mixes of linked rows' trees.
use Rattle.std.specs.Prelude.{◌≡◌, ℕ, ◌*◌, ◌≤◌, List, length, get_or}
use Rattle.mix.specs.Mix.{mix}
use Rattle.links.specs.Links.{Inside, linked}

-- the mixes from row lo on are those of its rows' trees
pub record Mixed (rows mx : List ℕ) (lo : ℕ) : Type 0 where
  pub wide : length rows ≤ 4 * length mx
  pub mixes : (j : ℕ) → lo ≤ j → Inside rows j → get_or mx j 0 ≡ mix (linked rows j)
