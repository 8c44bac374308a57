-- T-04: which constants of a table of 64-bit floats are 1 or −1.
use Rattle.std.specs.Prelude.{ℕ, ◌+◌, ◌*◌, ◌^◌, Bool, true, false, List, pos, Float}
use Rattle.std.specs.Float.{fin, binary64}
use Rattle.std.specs.Float.Ieee.{of_bits, eq}
use Rattle.operation.specs.Operators.{whole_of}
use Rattle.definitions.specs.Sheet.{word32}
use Rattle.tidying.specs.Tidy.{Units}

-- 'Multi-byte numbers are little-endian'
abbrev pub number64 : List ℕ → ℕ → ℕ
number64 s at = whole_of (word32 s at) + 2 ^ 32 * whole_of (word32 s (at + 4))

-- 'A value matches 1 or −1 by ==, so NaN matches none': past the table there are zeros
abbrev pub unit : (negative : Bool) → Float
unit negative = fin negative 1 (pos 0)

unfoldable pub is_unit : (negative : Bool) → List ℕ → ℕ → Bool
is_unit negative table i = eq (of_bits binary64 (number64 table (8 * i))) (unit negative)

abbrev pub units_of : List ℕ → Units
units_of table = record { is_one = is_unit false table; is_minus = is_unit true table }
