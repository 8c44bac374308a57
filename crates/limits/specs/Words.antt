-- Optional numbers in words.
use Rattle.std.specs.Prelude.{ℕ, ◌+◌, Option, None, Some}

-- the word of an optional number: 0 or 1 + it
abbrev pub word_of : Option ℕ → ℕ
word_of None = 0
word_of (Some k) = k + 1
