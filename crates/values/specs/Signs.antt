-- A unit's sign, and its bits.
use Rattle.std.specs.Prelude.{ℕ, Bool, true, false}
use Rattle.values.specs.declared.Unit.{Unit}
use Rattle.values.specs.declared.Unit.TheVariants.{One, MinusOne}

abbrev pub is_negative : Unit → Bool
is_negative One = false
is_negative MinusOne = true

-- the pattern of 1, and of −1
abbrev pub pattern_of : (negative : Bool) → ℕ
pattern_of true = 13830554455654793216
pattern_of false = 4607182418800017408
