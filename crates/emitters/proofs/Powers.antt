-- The operations of a power as they are emitted: by its sign, digit by digit, squaring by squaring. Assumes nothing.
use Rattle.std.specs.Prelude.{None, Option, Some}
use Prim.Native.Nat.{ℕ, zero, suc, ◌+◌, ◌-◌, ◌/◌, ◌%◌, ◌<◌, ◌≤◌}
use mathlib.Core.Path.{◌≡◌, refl, sym, ap, ◌∙◌}
use mathlib.Core.Bool.{Bool, true, false}
use mathlib.Core.List.{List, [], ◌∷◌, ◌++◌}
use native.Mathlib.Omega.{arith}
use borrow.Author.Tests.{ltb-false}
use lib.Dec.{eqb}
use lib.IntN.{ℤ, pos, negsuc, nat_abs}
use lib.ListN.{length, length-append}
use lib.Signed.{lt_z}
use mir.Syntax.{w32}
use mir.Val.{SFits, of_z}
use mir.ValLaws.{to_z-of_z}
use Rattle.operation.specs.Codes.{divide_code, recip_code}
use Rattle.definitions.specs.Operations.{Op, op_move, op_uni, op_bi, Temp}
use Rattle.definitions.specs.Emit.{product_ops, power_ops}
use Rattle.definitions.specs.Power.{digits, closing, higher, digit_ops, gather_ops, square_ops, positive_ops}
use Rattle.definitions.proofs.PowerDigits.{digits_zero, digits_step}
use Rattle.emitters.specs.Emitted.{Emitted, AllEmitted}
use Rattle.emitters.specs.declared.Output.{Output}
use Rattle.emitters.proofs.Emitting.{all_emitted, all_then}
use Rattle.emitters.proofs.Sign.{handed, zero_word, above, below}

-- a product has an operation at least
pub product_some : (m : Option ℕ) (d s1 s2 : ℕ) → 0 < length (product_ops m d s1 s2)
product_some None d s1 s2 = omega arith
product_some (Some r) d s1 s2 = omega arith

module _ (times : (d s1 s2 : ℕ) → List Op) where
  -- the operations of a number's digits: those of its lowest, and those of its half's
  pub gather_step : (d s n : ℕ) → 0 < n
      → gather_ops times d s (digits n) ≡ digit_ops times d s (eqb (n % 2) 1) ++ gather_ops times d Temp (digits (n / 2))
  unfolding gather_ops
  gather_step d s n h = rw (digits_step n h)

  pub gather_end : (d s n : ℕ) → n ≤ 0 → gather_ops times d s (digits n) ≡ []
  unfolding gather_ops
  gather_end d s n h = let e : n ≡ 0 = omega arith in rw (e, digits_zero)

  -- and of squarings: those of one, and those of the others
  pub square_step : (d t k : ℕ) → k < t → square_ops times d (t - k) ≡ times d d d ++ square_ops times d (t - (k + 1))
  unfolding square_ops
  square_step d t k h = let e : t - k ≡ suc (t - (k + 1)) = omega arith in rw e

  pub square_end : (d t k : ℕ) → t ≤ k → square_ops times d (t - k) ≡ []
  unfolding square_ops
  square_end d t k h = let e : t - k ≡ 0 = omega arith in rw e

  -- those of a positive power: the move, the digits, the closing squarings
  pub positive_length : (size d s : ℕ)
      → length (positive_ops times size d s)
      ≡ 1 + length (gather_ops times d s (higher size)) + length (square_ops times d (closing size))
  unfolding positive_ops
  positive_length size d s = omega (arith, length-append (gather_ops times d s (higher size)) (square_ops times d (closing size)))

  pub positive_emitted : (size d s : ℕ) {m n k : ℕ} {out out₁ out₂ out₃ : Output} → Emitted (op_move d s ∷ []) m out out₁
      → Emitted (gather_ops times d s (higher size)) n out₁ out₂ → Emitted (square_ops times d (closing size)) k out₂ out₃
      → AllEmitted (positive_ops times size d s) out out₃
  unfolding positive_ops
  positive_emitted size d s move digits squares = all_then move (all_then digits squares)

module _ (m : Option ℕ) (d s : ℕ) {p : ℤ} where
  -- power 0
  pub power_zero : (stable : Bool) → p ≡ pos 0 → power_ops m stable p d s ≡ op_bi divide_code d d d ∷ []
  unfolding power_ops
  power_zero stable e = rw e

  -- a power above 0, by its size
  pub power_above : (stable : Bool) (size : ℕ) → (0 < size) × (p ≡ pos size)
      → power_ops m stable p d s ≡ positive_ops (product_ops m) size d s
  unfolding power_ops
  power_above stable zero (h, e) = absurd (omega arith)
  power_above stable (suc n) (h, e) = rw e

  -- a power below 0, with the reciprocal first or last
  pub reciprocal_first : {stable : Bool} (size : ℕ) → stable ≡ true → (0 < size) × (p ≡ negsuc (size - 1))
      → power_ops m stable p d s ≡ op_uni recip_code d s ∷ positive_ops (product_ops None) size d d
  unfolding power_ops
  reciprocal_first zero b (h, e) = absurd (omega arith)
  reciprocal_first (suc n) b (h, e) = let less : suc n - 1 ≡ n = omega arith in rw (b, e, less)

  pub reciprocal_last : {stable : Bool} (size : ℕ) → stable ≡ false → (0 < size) × (p ≡ negsuc (size - 1))
      → power_ops m stable p d s ≡ positive_ops (product_ops None) size d s ++ (op_uni recip_code d d ∷ [])
  unfolding power_ops
  reciprocal_last zero b (h, e) = absurd (omega arith)
  reciprocal_last (suc n) b (h, e) = let less : suc n - 1 ≡ n = omega arith in rw (b, e, less)

-- a power that is not above 0 is not reduced
plain : (m : Option ℕ) (stable : Bool) (p : ℤ) (d s : ℕ) → lt_z (pos 0) p ≡ false
    → power_ops m stable p d s ≡ power_ops None stable p d s
unfolding power_ops
plain m stable (pos zero) d s e = refl
plain m stable (pos (suc n)) d s e = absurd (omega (arith, ltb-false 0 (suc n) e))
plain m true (negsuc n) d s e = refl
plain m false (negsuc n) d s e = refl

pub not_reduced : (m : Option ℕ) (stable : Bool) (p : ℤ) (d s : ℕ) → SFits w32 p → lt_z (pos 0) (handed p) ≡ false
    → power_ops m stable p d s ≡ power_ops None stable (handed p) d s
not_reduced m stable p d s fits e =
    ap (λ (p : ℤ). power_ops m stable p d s) (sym (to_z-of_z w32 p fits)) ∙ plain m stable (handed p) d s e

-- of a power of a known size, tested for its sign: its size is above 0, and its operations are those of a positive power
module _ (m : Option ℕ) (stable : Bool) (p : ℤ) {size : ℕ} (d s : ℕ) (fits : SFits w32 p)
    (known : size ≡ nat_abs (handed p)) where
  pub above_ops : lt_z (pos 0) (handed p) ≡ true
      → (0 < size) × (power_ops m stable p d s ≡ positive_ops (product_ops m) size d s)
  above_ops e = let sign = above p fits known e in (sign.0, power_above m d s stable size sign)

  -- below 0, its reciprocal comes first or last
  pub first_ops : (of_z w32 p ≡ 0 → ⊥) → lt_z (pos 0) (handed p) ≡ false → stable ≡ true
      → (0 < size) × (power_ops m stable p d s ≡ op_uni recip_code d s ∷ positive_ops (product_ops None) size d d)
  first_ops n e b = let sign = below p fits known n e in (sign.0, reciprocal_first m d s size b sign)

  pub last_ops : (of_z w32 p ≡ 0 → ⊥) → lt_z (pos 0) (handed p) ≡ false → stable ≡ false
      → (0 < size) × (power_ops m stable p d s ≡ positive_ops (product_ops None) size d s ++ (op_uni recip_code d d ∷ []))
  last_ops n e b = let sign = below p fits known n e in (sign.0, reciprocal_last m d s size b sign)

-- what a power is emitted as, by its sign
pub ruleset by_sign = (zero_word, power_zero, above_ops, first_ops, all_emitted)
