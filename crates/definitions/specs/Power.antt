-- Integer powers: T-02, as 'mir.rs' has them in powi_positive and powi_mod.
use Rattle.std.specs.Prelude.{ℕ, zero, suc, ◌-◌, ◌/◌, ◌%◌, ◌^◌, Bool, cond, List, [], ◌∷◌, ◌++◌, eqb, ltb, ℤ, pos, negsuc}
use Rattle.std.specs.Int.Count.{count_trailing_zeros}
use Rattle.definitions.specs.Operations.{Op, op_move, Temp}

-- T-02: 'signed 32-bit power'
unfoldable pub signed_of : (word : ℕ) → ℤ
signed_of w = cond (ltb w (2 ^ 31)) (pos w) (negsuc (2 ^ 32 - suc w))

-- the binary digits of a number, lowest first; it has no more of them than its size
unfoldable pub digits_in : (most n : ℕ) → List Bool
digits_in zero n = []
digits_in (suc k) zero = []
digits_in (suc k) (suc n) = eqb (suc n % 2) 1 ∷ digits_in k (suc n / 2)

unfoldable pub digits : ℕ → List Bool
digits n = digits_in n n

-- T-02: 'the trailing zero bits of a positive power are the squarings left for the end'
abbrev pub closing : (size : ℕ) → ℕ
closing size = count_trailing_zeros 32 size

-- the digits above the lowest that is set
unfoldable pub higher : (size : ℕ) → List Bool
higher size = digits (size / 2 ^ closing size / 2)

-- the operations of a positive power, given those of a product
module _ (times : (d s1 s2 : ℕ) → List Op) where
  -- a digit: the next square into Temp, from the register of the last, and its product into the destination if the digit is set
  abbrev pub digit_ops : (d s : ℕ) → Bool → List Op
  digit_ops d s b = times Temp s s ++ cond b (times d d Temp) []

  unfoldable pub gather_ops : (d s : ℕ) → List Bool → List Op
  gather_ops d s [] = []
  gather_ops d s (b ∷ bs) = digit_ops d s b ++ gather_ops d Temp bs

  unfoldable pub square_ops : (d n : ℕ) → List Op
  square_ops d zero = []
  square_ops d (suc n) = times d d d ++ square_ops d n

  unfoldable pub positive_ops : (size d s : ℕ) → List Op
  positive_ops size d s = op_move d s ∷ (gather_ops d s (higher size) ++ square_ops d (closing size))

-- and its value, given that of a product: x is what has been gathered, q the last square
module _ {A : Type 0} (times : A → A → A) where
  unfoldable pub gathered : (x q : A) → List Bool → A
  gathered x q [] = x
  gathered x q (b ∷ bs) = gathered (cond b (times x (times q q)) x) (times q q) bs

  unfoldable pub squared : (n : ℕ) → A → A
  squared zero x = x
  squared (suc n) x = squared n (times x x)

  unfoldable pub positive_value : (size : ℕ) → A → A
  positive_value size x = squared (closing size) (gathered x x (higher size))
