-- Signed numbers of 32 bits: the number that a word stands for, its sign and its size. Assumes nothing.
use Prim.Native.Nat.{ℕ, suc, ◌-◌, ◌^◌, ◌<◌, ◌≤◌}
use mathlib.Core.Path.{◌≡◌, refl, sym, ap}
use mathlib.Core.Bool.{Bool, true, false, cond}
use native.Mathlib.Omega.{arith}
use borrow.Author.Tests.{ltb-true, ltb-false}
use lib.Dec.{ltb}
use lib.IntN.{ℤ, pos, negsuc, nat_abs}
use lib.Signed.{lt_z}
use mir.Syntax.{w32}
use mir.Val.{SFits, to_z, of_z, sel}
use mir.ValLaws.{to_z-of_z}
use Rattle.definitions.specs.Power.{signed_of}

-- what the machine reads from a word is the number that the word stands for
pub read_signed : (w : ℕ) → to_z w32 w ≡ signed_of w
unfolding signed_of
read_signed w = go (ltb w (2 ^ 31))
  where
    go : (b : Bool) → sel b (pos w) (negsuc (2 ^ 32 - suc w)) ≡ cond b (pos w) (negsuc (2 ^ 32 - suc w))
    go true = refl
    go false = refl

-- its size is at most that of the lowest
pub signed_size : (w : ℕ) → nat_abs (signed_of w) ≤ 2 ^ 31
unfolding signed_of
signed_size w = go (ltb w (2 ^ 31)) refl
  where
    go : (b : Bool) → ltb w (2 ^ 31) ≡ b → nat_abs (cond b (pos w) (negsuc (2 ^ 32 - suc w))) ≤ 2 ^ 31
    go true e = omega (arith, ltb-true w (2 ^ 31) e)
    go false e = omega (arith, ltb-false w (2 ^ 31) e)

-- a number as it is handed on: read back from its word
abbrev pub handed : ℤ → ℤ
handed p = to_z w32 (of_z w32 p)

-- what the tests of a power say, its size being known
pub zero_word : (p : ℤ) → SFits w32 p → of_z w32 p ≡ 0 → p ≡ pos 0
zero_word (pos n) fits e = ap pos e
zero_word (negsuc n) fits e = absurd (omega (arith, fits.sfits))

positive : (p : ℤ) (size : ℕ) → size ≡ nat_abs p → lt_z (pos 0) p ≡ true → (0 < size) × (p ≡ pos size)
positive (pos n) size q e = (omega (arith, ltb-true 0 n e), ap pos (sym q))
positive (negsuc n) size q e = let no : ◌≡◌ {A = ℕ} 0 1 = cc in absurd (omega arith)

pub above : (p : ℤ) {size : ℕ} → SFits w32 p → size ≡ nat_abs (handed p) → lt_z (pos 0) (handed p) ≡ true
    → (0 < size) × (p ≡ pos size)
above p {size} fits q e = positive p size (rw (to_z-of_z w32 p fits) at q) (rw (to_z-of_z w32 p fits) at e)

negative : (p : ℤ) (size : ℕ) → size ≡ nat_abs p → (of_z w32 p ≡ 0 → ⊥) → lt_z (pos 0) p ≡ false
    → (0 < size) × (p ≡ negsuc (size - 1))
negative (pos n) size q not-zero e = absurd (not-zero (omega (arith, ltb-false 0 n e)))
negative (negsuc n) size q not-zero e = (omega arith, ap negsuc (omega arith))

pub below : (p : ℤ) {size : ℕ} → SFits w32 p → size ≡ nat_abs (handed p) → (of_z w32 p ≡ 0 → ⊥)
    → lt_z (pos 0) (handed p) ≡ false → (0 < size) × (p ≡ negsuc (size - 1))
below p {size} fits q not-zero e =
    negative p size (rw (to_z-of_z w32 p fits) at q) not-zero (rw (to_z-of_z w32 p fits) at e)
