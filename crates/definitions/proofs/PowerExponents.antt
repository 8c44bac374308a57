-- A power's value is that power, wherever the product of two powers has the sum of their exponents. Assumes nothing.
use Prim.Native.Nat.{ℕ, zero, suc, ◌+◌, ◌*◌, ◌/◌, ◌%◌, ◌^◌, ◌<◌, ◌≤◌}
use mathlib.Core.Path.{◌≡◌, refl, sym, ap, ◌∙◌}
use mathlib.Core.Bool.{Bool, true, false}
use mathlib.Core.List.{List, [], ◌∷◌}
use native.Mathlib.Omega.{arith}
use native.Mathlib.Nat.{pow-zero, pow-suc, pow-succ', mul-one, mul_assoc, add-mul, mul-add}
use lib.Dec.{eqb}
use lib.Count.{count_trailing_zeros, under}
use lib.Arith.{half_le}
use lib.Pow.{pow-add}
use Rattle.definitions.specs.Power.{digits_in, digits, closing, higher, gathered, squared, positive_value}
use Rattle.definitions.proofs.PowerDigits.{half_first}

-- what digits stand for
bit : Bool → ℕ
bit true = 1
bit false = 0

number : List Bool → ℕ
number [] = 0
number (b ∷ bs) = bit b + (number bs + number bs)

odd_or_even : (n : ℕ) → bit (eqb (n % 2) 1) + (n / 2 + n / 2) ≡ n
unfolding bit
odd_or_even n = go (n % 2) refl
  where
    go : (r : ℕ) → n % 2 ≡ r → bit (eqb r 1) + (n / 2 + n / 2) ≡ n
    go zero e = omega arith
    go (suc zero) e = omega arith
    go (suc (suc r)) e = omega arith

number_digits_in : (k n : ℕ) → n ≤ k → number (digits_in k n) ≡ n
unfolding digits_in number
number_digits_in zero n h = omega arith
number_digits_in (suc k) zero h = refl
number_digits_in (suc k) (suc n) h =
    let e : number (digits_in k (suc n / 2)) ≡ suc n / 2 = number_digits_in k (suc n / 2) (half_le h) in
    rw e (odd_or_even (suc n))

number_digits : (n : ℕ) → number (digits n) ≡ n
unfolding digits
number_digits n = number_digits_in n n (omega arith)

-- a number by its trailing zeros and what stands above the lowest digit that is set
abbrev back : (zeros above : ℕ) → ℕ
back t h = (1 + (h + h)) * 2 ^ t

by_zeros : (k n : ℕ) → 0 < n → n < 2 ^ k → back (count_trailing_zeros k n) (n / 2 ^ count_trailing_zeros k n / 2) ≡ n
unfolding count_trailing_zeros
by_zeros zero n p h = absurd (omega arith)
by_zeros (suc k) n p h = go (n % 2) refl (by_zeros k (n / 2))
  where
    go : (r : ℕ) → n % 2 ≡ r →
        (0 < n / 2 → n / 2 < 2 ^ k →
        back (count_trailing_zeros k (n / 2)) (n / 2 / 2 ^ count_trailing_zeros k (n / 2) / 2) ≡ n / 2) →
        back (under r (count_trailing_zeros k (n / 2))) (n / 2 ^ under r (count_trailing_zeros k (n / 2)) / 2) ≡ n
    go zero e ih =
        let t = count_trailing_zeros k (n / 2) in
        let double : 2 ^ suc k ≡ 2 ^ k * 2 = pow-suc 2 k in
        let m = 1 + (n / 2 / 2 ^ t / 2 + n / 2 / 2 ^ t / 2) in
        let f : m * 2 ^ t ≡ n / 2 = ih (omega arith) (omega arith) in
        rw (half_first n t, pow-suc 2 t, ← mul_assoc m (2 ^ t) 2, f) (omega arith)
    go (suc r) e ih = rw (mul-one (1 + (n / 1 / 2 + n / 1 / 2))) (omega (arith, mod_below n))
      where
        mod_below : (n : ℕ) → n % 2 < 2
        mod_below n = omega arith

-- exponents: a product adds them
gathered_exponents : (bs : List Bool) (a q : ℕ) → gathered ◌+◌ a q bs ≡ a + number bs * (q + q)
unfolding gathered number bit
gathered_exponents [] a q = omega arith
gathered_exponents (true ∷ bs) a q =
    let n = number bs in
    gathered_exponents bs (a + (q + q)) (q + q)
    ∙ omega (arith, mul-add n (q + q) (q + q), add-mul 1 (n + n) (q + q), add-mul n n (q + q))
gathered_exponents (false ∷ bs) a q =
    let n = number bs in
    gathered_exponents bs a (q + q)
    ∙ omega (arith, mul-add n (q + q) (q + q), add-mul 0 (n + n) (q + q), add-mul n n (q + q))

squared_exponents : (n y : ℕ) → squared ◌+◌ n y ≡ y * 2 ^ n
unfolding squared
squared_exponents zero y = sym (mul-one y)
squared_exponents (suc n) y =
    squared_exponents n (y + y) ∙ rw (pow-suc 2 n, ← mul_assoc y (2 ^ n) 2) (omega (arith, add-mul y y (2 ^ n)))

positive_exponents : (size : ℕ) → 0 < size → size < 2 ^ 32 → positive_value ◌+◌ size 1 ≡ size
unfolding positive_value higher
positive_exponents size p h =
    let n = size / 2 ^ closing size / 2 in
    let e : gathered ◌+◌ 1 1 (digits n) ≡ 1 + (n + n) = gathered_exponents (digits n) 1 1 ∙ omega (arith, number_digits n) in
    rw e (squared_exponents (closing size) (1 + (n + n)) ∙ by_zeros 32 size p h)

module _ {A : Type 0} (times : A → A → A) (power : ℕ → A) (adds : (a b : ℕ) → times (power a) (power b) ≡ power (a + b)) where
  gathered_power : (bs : List Bool) (a q : ℕ) → gathered times (power a) (power q) bs ≡ power (gathered ◌+◌ a q bs)
  unfolding gathered
  gathered_power [] a q = refl
  gathered_power (true ∷ bs) a q = rw (adds q q, adds a (q + q)) (gathered_power bs (a + (q + q)) (q + q))
  gathered_power (false ∷ bs) a q = rw (adds q q) (gathered_power bs a (q + q))

  squared_power : (n a : ℕ) → squared times n (power a) ≡ power (squared ◌+◌ n a)
  unfolding squared
  squared_power zero a = refl
  squared_power (suc n) a = rw (adds a a) (squared_power n (a + a))

  pub positive_power : (size : ℕ) → 0 < size → size < 2 ^ 32 → positive_value times size (power 1) ≡ power size
  unfolding positive_value
  positive_power size p h =
      rw (gathered_power (higher size) 1 1, squared_power (closing size) (gathered ◌+◌ 1 1 (higher size)))
      (ap power (positive_exponents size p h))

-- so over the natural numbers
pub power_of_number : (x size : ℕ) → 0 < size → size < 2 ^ 32 → positive_value ◌*◌ size x ≡ x ^ size
power_of_number x size p h =
    let one : x ^ 1 ≡ x = pow-succ' x 0 ∙ ap (λ (y : ℕ). x * y) (pow-zero x) ∙ mul-one x in
    rw one at (positive_power ◌*◌ (λ n. x ^ n) (λ a b. sym (pow-add x a b)) size p h)
