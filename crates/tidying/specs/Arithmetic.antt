-- T-04: where tidying changes no value.
use Rattle.std.specs.Prelude.{ℕ, ◌≡◌, true}
use Rattle.operation.specs.Codes.{plus_code, minus_code, times_code, divide_code, recip_code}
use Rattle.tidying.specs.Codes.{neg_code, abs2_code, real_code, conjugate_code}
use Rattle.tidying.specs.Tidy.{Units}
use Rattle.definitions.specs.Meaning.{Meaning, Commuting}

-- a meaning in which each rule is an equation, as in arithmetic
pub record Equations (u : Units) (m : Meaning) : Type 0 where
  pub commuting : Commuting m
  pub minus_times : (i : ℕ) → u.is_minus i ≡ true → (x : m.Value) →
      m.binary_of times_code (m.constant_of i) x ≡ m.unary_of neg_code x
  pub one_times : (i : ℕ) → u.is_one i ≡ true → (x : m.Value) → m.binary_of times_code (m.constant_of i) x ≡ x
  pub real_constant : (i : ℕ) → m.unary_of real_code (m.constant_of i) ≡ m.constant_of i
  pub times_recip : (x y : m.Value) → m.binary_of times_code x (m.unary_of recip_code y) ≡ m.binary_of divide_code x y
  pub divide_recip : (x y : m.Value) → m.binary_of divide_code x (m.unary_of recip_code y) ≡ m.binary_of times_code x y
  pub times_conjugate : (x : m.Value) → m.binary_of times_code x (m.unary_of conjugate_code x) ≡ m.unary_of abs2_code x
  pub plus_neg : (x y : m.Value) → m.binary_of plus_code x (m.unary_of neg_code y) ≡ m.binary_of minus_code x y
