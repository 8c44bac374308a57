-- Items sought by their mixes: document 01, 'a wrapping 64-bit mix … picks candidates, and comparison decides'. They stand in digital
-- search trees, one for each remainder of a mix: a word has 0, or 1 + the item that stands there, and an item has two words under it.
use Rattle.std.specs.Prelude.{◌≡◌, List, ℕ, zero, suc, ◌+◌, ◌-◌, ◌*◌, ◌/◌, ◌%◌, ◌<◌, get_or}

-- how many trees there are, and the one of a mix
abbrev pub slot_count : ℕ
slot_count = 512

abbrev pub slot : ℕ → ℕ
slot m = m % slot_count

-- the bits of a mix that are left after so many steps
unfoldable pub bits_after : (m steps : ℕ) → ℕ
bits_after m zero = m / slot_count
bits_after m (suc t) = bits_after m t / 2

-- the words under an item: the next bit chooses one
abbrev pub under : (item bits : ℕ) → ℕ
under item bits = slot_count + 2 * item + bits % 2

abbrev pub entry : (links : List ℕ) (at : ℕ) → ℕ
entry links at = get_or links at 0

-- the word that the search for a mix comes to
unfoldable pub word_after : (links : List ℕ) (m steps : ℕ) → ℕ
word_after links m zero = slot m
word_after links m (suc t) = under (entry links (word_after links m t) - 1) (bits_after m t)

-- it passes an item at every step
abbrev pub Passes : (links : List ℕ) (m steps : ℕ) → Type 0
Passes links m steps = (t : ℕ) → t < steps → 0 < entry links (word_after links m t)

-- and meets this one
pub record Meets (links : List ℕ) (m item : ℕ) : Type 0 where
  pub steps : ℕ
  pub passes : Passes links m steps
  pub here : entry links (word_after links m steps) ≡ suc item
