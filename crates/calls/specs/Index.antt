-- Earlier calls by their mixes: document 01, 'a wrapping 64-bit mix … picks candidates, and comparison decides'. The calls with
-- one slot are chained: heads has the last row of each chain, and a call's row is linked to the one before it and has a key.
use Rattle.std.specs.Prelude.{◌≡◌, ℕ, ◌-◌, ◌/◌, ◌%◌, ◌^◌, ◌<◌, ◌≤◌, Bool, true, List, length, get_or}
use Rattle.limits.specs.Limits.{node_limit}
use Rattle.statement.specs.declared.Row.{Row}
use Rattle.statement.specs.declared.Row.TheVariants.{Given, Copied, Kept, Passed, Made}
use Rattle.statement.specs.Rows.{HasLink, link_at, key_at, row_at}
use Rattle.statement.specs.Rowing.{Unmade}
use Rattle.keys.specs.Keys.{SeenMix}

-- calls with one slot stand in one chain
abbrev pub slot : ℕ → ℕ
slot m = m % node_limit

-- and of those only the ones with one key are compared: the uppermost bits of a mix, as many as a row has room for
abbrev pub key_of : ℕ → ℕ
key_of m = m / 2 ^ 32

-- what is asked of the root of a row that makes a call
abbrev pub OnMade : (ℕ → Type 0) → Row → Type 0
OnMade P (Given place root) = Unit {0}
OnMade P (Copied place k) = Unit {0}
OnMade P (Kept m root) = Unit {0}
OnMade P (Passed m k) = Unit {0}
OnMade P (Made m root link key) = P root

-- mixAt k is the mix of the call that row k makes
abbrev pub Mixed : (mix_at : ℕ → ℕ) (ws ms : List ℕ) (rows : List Row) (count : ℕ) → Type 0
Mixed mix_at ws ms rows count = (k : ℕ) → k < count → OnMade (λ b. SeenMix ws ms b (mix_at k)) (row_at rows k)

-- v is 0, or 1 + the last row below `high` whose call has slot s
pub record LastOf (mix_at : ℕ → ℕ) (rows : List Row) (s high v : ℕ) : Type 0 where
  pub below : v ≤ high
  pub linked : 0 < v → HasLink rows (v - 1)
  pub own : 0 < v → slot (mix_at (v - 1)) ≡ s
  pub none : (j : ℕ) → v ≤ j → j < high → slot (mix_at j) ≡ s → Unmade (row_at rows j)

-- a row with a link leads to the row before it in its chain, and has the key of its mix
abbrev pub Linked : (mix_at : ℕ → ℕ) (rows : List Row) (count : ℕ) → Type 0
Linked mix_at rows count = (k : ℕ) → k < count → HasLink rows k →
    LastOf mix_at rows (slot (mix_at k)) k (link_at rows k) × (key_at rows k ≡ key_of (mix_at k))

-- the calls of so many rows can be found by their mixes
pub record Keyed (ws ms : List ℕ) (rows : List Row) (heads : List ℕ) (count : ℕ) : Type 0 where
  pub mix_at : ℕ → ℕ
  pub mixed : Mixed mix_at ws ms rows count
  pub starts : (s : ℕ) → s < node_limit → LastOf mix_at rows s count (get_or heads s 0)
  pub goes : Linked mix_at rows count
  pub wide : length heads ≡ node_limit

-- where they are sought
abbrev pub Indexed : (sharing : Bool) (ws ms : List ℕ) (rows : List Row) (heads : List ℕ) (count : ℕ) → Type 0
Indexed sharing ws ms rows heads count = sharing ≡ true → Keyed ws ms rows heads count

-- what a search of so many rows for the call of node i goes by
pub record Sought (ws ms : List ℕ) (rows : List Row) (i count : ℕ) : Type 0 where
  pub mix_at : ℕ → ℕ
  pub mixed : Mixed mix_at ws ms rows count
  pub goes : Linked mix_at rows count
  pub mix : ℕ
  pub ours : SeenMix ws ms i mix

-- its chain begins with v, and its key is known
pub record SeekReady (ws ms : List ℕ) (rows : List Row) (i v key count : ℕ) : Type 0 where
  pub by : Sought ws ms rows i count
  pub first : LastOf by.mix_at rows (slot by.mix) count v
  pub own : key ≡ key_of by.mix
