-- The codes that the rules of tidying name, beside those of the crate operation.
use Rattle.std.specs.Prelude.{ℕ}

abbrev pub neg_code : ℕ
neg_code = 1

abbrev pub abs2_code : ℕ
abs2_code = 4

abbrev pub real_code : ℕ
real_code = 17

abbrev pub conjugate_code : ℕ
conjugate_code = 19
