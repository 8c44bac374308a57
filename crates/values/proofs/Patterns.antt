-- One bit pattern is equal to 1 by ==, and one to −1; a table's end has neither. Assumes nothing.
use mathlib.Core.Path.{◌≡◌, refl, sym, ap, ◌∙◌}
use mathlib.Core.Bool.{Bool, true, false, not, ◌||◌, beq, false≢true}
use mathlib.Core.List.{List}
use Prim.Native.Nat.{ℕ, ◌+◌, ◌*◌, ◌^◌, ◌<◌, ◌≤◌}
use native.Mathlib.Omega.{arith}
use native.Mathlib.Nat.{one-mul}
use lib.ListN.{length, get_or, get_or-eq_default}
use lib.Dec.{T, eqb}
use lib.Ieee.{Float, nan, inf, fin, binary64, up, down, eq, fits, is_nan, of_bits, to_bits, of_fields, odd, size, span, climb}
use lib.Ieee.Fits.{down_pos}
use lib.Ieee.Back.{whole_unique}
use lib.Ieee.Bits.{of_bits-fits, to_bits-of_bits}
use mir.Syntax.{w8}
use mir.Val.{Fits}
use borrow.Author.Tests.{eqb-true, eq-eqb, ne_eqb}
use Rattle.definitions.specs.Sheet.{byte, number16}
use Rattle.tidying.specs.Units.{number64, unit, is_unit}
use Rattle.definitions.proofs.Comparing.{and_both}
use Rattle.values.specs.Signs.{pattern_of}

-- ---- what is equal to 1 or −1 is that float

beq_equal : (s t : Bool) → beq s t ≡ true → s ≡ t
beq_equal true true e = refl
beq_equal true false e = absurd (false≢true e)
beq_equal false true e = absurd (false≢true e)
beq_equal false false e = refl

-- numbers that are not zero have one sign, if they are equal
sign_equal : (s t : Bool) (a : ℕ) → 0 < a → (beq s t || eqb a 0) ≡ true → s ≡ t
sign_equal s t a h e = go (beq s t) refl e
  where
    go : (b : Bool) → beq s t ≡ b → (b || eqb a 0) ≡ true → s ≡ t
    go true p q = beq_equal s t p
    go false p q = absurd (let z = eqb-true a 0 q in omega arith)

module _ (negative : Bool) where
  unit_fits : T (fits binary64 (unit negative))
  unfolding fits
  unit_fits = tt

  equal_unit : (x : Float) → T (fits binary64 x) → eq x (unit negative) ≡ true → x ≡ unit negative
  unfolding eq
  equal_unit nan h e = absurd (false≢true e)
  equal_unit (inf t) h e = absurd (false≢true e)
  equal_unit (fin t m g) h e =
      let both = and_both (eqb (m * up g * 1) (1 * 1 * down g)) _ e in
      let value = eqb-true (m * up g * 1) (1 * 1 * down g) both.0 in
      let scale : 1 * 1 * down g ≡ down g = one-mul (down g) in
      let scaled = down_pos g in
      let sign : t ≡ negative = sign_equal t negative (m * up g * 1) (omega arith) both.1 in
      whole_unique binary64 (fin t m g) (unit negative) negative 1 h unit_fits (sign, value) (refl, refl)

  no_nan : (x : Float) → x ≡ unit negative → T (not (is_nan x))
  unfolding is_nan
  no_nan x e = rw e tt

equal_itself : (negative : Bool) → eq (unit negative) (unit negative) ≡ true
unfolding eq
equal_itself true = refl
equal_itself false = refl

-- ---- and has its one pattern

pattern_back : (negative : Bool) → of_bits binary64 (pattern_of negative) ≡ unit negative
unfolding of_bits of_fields odd size span climb
pattern_back true = refl
pattern_back false = refl

unit_pattern : (negative : Bool) → to_bits binary64 (unit negative) ≡ pattern_of negative
unfolding to_bits size span climb
unit_pattern true = refl
unit_pattern false = refl

pub one_pattern : (negative : Bool) (bits : ℕ) → bits < 2 ^ 64 →
    eq (of_bits binary64 bits) (unit negative) ≡ eqb bits (pattern_of negative)
one_pattern negative bits h = go (eq (of_bits binary64 bits) (unit negative)) refl
  where
    go : (r : Bool) → eq (of_bits binary64 bits) (unit negative) ≡ r → r ≡ eqb bits (pattern_of negative)
    go true e =
        let is = equal_unit negative (of_bits binary64 bits) (of_bits-fits binary64 bits) e in
        let back = to_bits-of_bits binary64 bits h (no_nan negative (of_bits binary64 bits) is) in
        sym (eq-eqb bits (pattern_of negative) (sym back ∙ ap (to_bits binary64) is ∙ unit_pattern negative))
    go false e =
        sym (ne_eqb bits (pattern_of negative) (λ z. false≢true (sym e ∙ rw (z, pattern_back negative) (equal_itself negative))))

-- ---- in a table of bytes

module _ (table : List ℕ) (bytes : (k : ℕ) → Fits w8 (get_or table k 0)) where
  number-16 : (at : ℕ) → number16 table at < 2 ^ 16
  number-16 at = omega (arith, bytes at, bytes (at + 1))

  -- eight bytes of which the last is at most some byte
  number_below : (at last : ℕ) → byte table (at + 4 + 2 + 1) ≤ last → number64 table at < 2 ^ 56 * (last + 1)
  number_below at last h = omega (arith, number-16 at, number-16 (at + 2), number-16 (at + 4), bytes (at + 4 + 2))

  module _ (negative : Bool) (i : ℕ) where
    unit_by_pattern : is_unit negative table i ≡ eqb (number64 table (8 * i)) (pattern_of negative)
    unfolding is_unit
    unit_by_pattern =
        let below = number_below (8 * i) 255 (omega (arith, bytes (8 * i + 4 + 2 + 1))) in
        one_pattern negative (number64 table (8 * i)) (omega arith)

    -- a number that was read is compared with the pattern
    pub unit_read : (bits : ℕ) → bits ≡ number64 table (8 * i) → eqb bits (pattern_of negative) ≡ is_unit negative table i
    unit_read bits e = ap (λ (n : ℕ). eqb n (pattern_of negative)) e ∙ sym unit_by_pattern

    -- past the table's end there are zeros, and no pattern is so small
    pub none_past : length table ≤ 8 * i + 7 → false ≡ is_unit negative table i
    none_past h =
        let zeros = get_or-eq_default table 0 {n = 8 * i + 4 + 2 + 1} (omega arith) in
        let below = number_below (8 * i) 0 (omega arith) in
        sym (unit_by_pattern ∙ ne_eqb (number64 table (8 * i)) (pattern_of negative) (λ e. small negative e below))
      where
        small : (s : Bool) → number64 table (8 * i) ≡ pattern_of s → number64 table (8 * i) < 2 ^ 56 * (0 + 1) → ⊥
        small true e h = omega arith
        small false e h = omega arith
