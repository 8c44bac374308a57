-- The digits of a number, and its trailing zeros. Assumes nothing.
use Prim.Native.Nat.{ℕ, zero, suc, ◌+◌, ◌*◌, ◌/◌, ◌%◌, ◌^◌, ◌<◌, ◌≤◌}
use mathlib.Core.Path.{◌≡◌, refl, sym, ap, ◌∙◌}
use mathlib.Core.Bool.{Bool}
use mathlib.Core.List.{List, [], ◌∷◌}
use native.Mathlib.Omega.{arith}
use native.Mathlib.Nat.{pow-suc, pow-succ', div-div-eq-div-mul}
use native.Mathlib.Decide.{le_ind, dec_le}
use lib.Count.{count_trailing_zeros, under}
use lib.Dec.{eqb}
use lib.Arith.{half_le}
use lib.ListN.{length}
use Rattle.definitions.specs.Power.{digits_in, digits, closing, higher}

-- places beyond a number's own add nothing
more : (k n : ℕ) → n ≤ k → digits_in (suc k) n ≡ digits_in k n
unfolding digits_in
more zero zero h = refl
more zero (suc n) h = absurd (omega arith)
more (suc k) zero h = refl
more (suc k) (suc n) h = ap (λ (l : List Bool). eqb (suc n % 2) 1 ∷ l) (more k (suc n / 2) (half_le h))

enough : (k n : ℕ) → n ≤ k → digits_in k n ≡ digits_in n n
enough k n h = le_ind (λ (j : ℕ). digits_in j n ≡ digits_in n n) refl (λ j l e. more j n l ∙ e) k h

pub digits_zero : digits 0 ≡ []
unfolding digits digits_in
digits_zero = refl

-- the lowest digit, and the rest
pub digits_step : (n : ℕ) → 0 < n → digits n ≡ eqb (n % 2) 1 ∷ digits (n / 2)
unfolding digits digits_in
digits_step zero h = absurd (omega arith)
digits_step (suc n) h = ap (λ (l : List Bool). eqb (suc n % 2) 1 ∷ l) (enough n (suc n / 2) (half_le (omega arith)))

pub digits_length : (k n : ℕ) → n < 2 ^ k → length (digits n) ≤ k
digits_length zero zero h = rw digits_zero (omega arith)
digits_length zero (suc n) h = absurd (omega arith)
digits_length (suc k) zero h = rw digits_zero (omega arith)
digits_length (suc k) (suc n) h =
    let e : 2 ^ suc k ≡ 2 ^ k * 2 = pow-suc 2 k in
    rw (digits_step (suc n) (omega arith)) (omega (arith, digits_length k (suc n / 2) (omega arith)))

-- one more trailing zero: half the number
pub half_first : (n t : ℕ) → n / 2 ^ suc t ≡ n / 2 / 2 ^ t
half_first n t = ap (λ (x : ℕ). n / x) (pow-succ' 2 t) ∙ sym (div-div-eq-div-mul n 2 (2 ^ t))

-- a number above 0 has fewer trailing zeros than digits
pub trailing_below : (k n : ℕ) → 0 < n → n < 2 ^ k → count_trailing_zeros k n < k
unfolding count_trailing_zeros
trailing_below zero n p h = absurd (omega arith)
trailing_below (suc k) n p h = go (n % 2) refl (trailing_below k (n / 2))
  where
    go : (r : ℕ) → n % 2 ≡ r → (0 < n / 2 → n / 2 < 2 ^ k → count_trailing_zeros k (n / 2) < k) →
        under r (count_trailing_zeros k (n / 2)) < suc k
    go zero e ih = let double : 2 ^ suc k ≡ 2 ^ k * 2 = pow-suc 2 k in omega (arith, ih (omega arith) (omega arith))
    go (suc r) e ih = omega arith

-- the digits above the lowest that is set, that one and the zeros under it are no more than all
higher_few : (j k n : ℕ) → 0 < n → n < 2 ^ suc k → n < 2 ^ j →
    length (digits (n / 2 ^ count_trailing_zeros j n / 2)) + count_trailing_zeros j n ≤ k
unfolding count_trailing_zeros
higher_few zero k n p h i = absurd (omega arith)
higher_few (suc j) k n p h i = go k (n % 2) refl h (λ k. higher_few j k (n / 2))
  where
    go : (k r : ℕ) → n % 2 ≡ r → n < 2 ^ suc k →
        ((k : ℕ) → 0 < n / 2 → n / 2 < 2 ^ suc k → n / 2 < 2 ^ j →
        length (digits (n / 2 / 2 ^ count_trailing_zeros j (n / 2) / 2)) + count_trailing_zeros j (n / 2) ≤ k) →
        length (digits (n / 2 ^ under r (count_trailing_zeros j (n / 2)) / 2)) + under r (count_trailing_zeros j (n / 2)) ≤ k
    go k (suc r) e h ih =
        let double : 2 ^ suc k ≡ 2 ^ k * 2 = pow-suc 2 k in
        omega (arith, digits_length k (n / 1 / 2) (omega arith))
    go zero zero e h ih = absurd (omega arith)
    go (suc k) zero e h ih =
        let double : 2 ^ suc (suc k) ≡ 2 ^ suc k * 2 = pow-suc 2 (suc k) in
        let double' : 2 ^ suc j ≡ 2 ^ j * 2 = pow-suc 2 j in
        rw (half_first n (count_trailing_zeros j (n / 2))) (omega (arith, ih k (omega arith) (omega arith) (omega arith)))

-- of the largest size nothing is left to multiply
lowest_few : 2 * length (higher (2 ^ 31)) + closing (2 ^ 31) ≤ 60
unfolding higher count_trailing_zeros digits digits_in
lowest_few = omega arith

-- so the products of a power whose size is at most 2^31 are at most 60
pub products_few : (size : ℕ) → 0 < size → size ≤ 2 ^ 31 → 2 * length (higher size) + closing size ≤ 60
unfolding higher
products_few size p h = go (dec_le (2 ^ 31) size)
  where
    go : Dec (2 ^ 31 ≤ size) → 2 * length (higher size) + closing size ≤ 60
    go (yes l) = let e : size ≡ 2 ^ 31 = omega arith in rw e lowest_few
    go (no l) = omega (arith, higher_few 32 30 size p (omega arith) (omega arith))
