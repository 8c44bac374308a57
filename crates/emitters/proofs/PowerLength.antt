-- A power has no more operations than a node may have. Assumes nothing.
use Rattle.std.specs.Prelude.{None, Some, Option}
use Prim.Native.Nat.{ℕ, zero, suc, ◌+◌, ◌*◌, ◌^◌, ◌<◌, ◌≤◌}
use mathlib.Core.Path.{◌≡◌, refl, sym, ap, ◌∙◌}
use mathlib.Core.Bool.{Bool, true, false}
use mathlib.Core.List.{List, [], ◌∷◌}
use native.Mathlib.Nat.{mul-add, mul-suc, mul-le-mul_left}
use native.Mathlib.Omega.{arith}
use lib.IntN.{ℤ, pos, negsuc, nat_abs}
use lib.ListN.{length, length-append}
use lib.Signed.{mag}
use mir.Syntax.{w32}
use mir.Val.{hbits, to_z}
use mir.ValLaws.{to_z-of_z}
use Rattle.limits.specs.Limits.{ops_per_node}
use Rattle.operation.specs.Codes.{recip_code}
use Rattle.definitions.specs.Operations.{Op, op_uni, Temp}
use Rattle.definitions.specs.Emit.{product_ops, power_ops}
use Rattle.definitions.specs.Power.{signed_of, closing, higher, digit_ops, gather_ops, square_ops, positive_ops}
use Rattle.definitions.proofs.PowerDigits.{products_few}
use Rattle.emitters.specs.Emitted.{words_end, Emitted, AllEmitted, Room}
use Rattle.emitters.specs.declared.Output.{Output}
use Rattle.emitters.proofs.Emitting.{emitted_as}
use Rattle.emitters.proofs.Powers.{positive_length}
use Rattle.emitters.proofs.Sign.{read_signed, signed_size, handed}

-- where each product has so many operations
module _ (times : (d s1 s2 : ℕ) → List Op) (each : ℕ) (times-length : (d s1 s2 : ℕ) → length (times d s1 s2) ≡ each) where
  digit_few : (d s : ℕ) (b : Bool) → length (digit_ops times d s b) ≤ each + each
  digit_few d s true = omega (arith, length-append (times Temp s s) (times d d Temp), times-length Temp s s, times-length d d Temp)
  digit_few d s false = omega (arith, length-append (times Temp s s) [], times-length Temp s s)

  gather_few : (d s : ℕ) (bs : List Bool) → length (gather_ops times d s bs) ≤ each * (2 * length bs)
  unfolding gather_ops
  gather_few d s [] = omega arith
  gather_few d s (b ∷ bs) =
      let joined = length-append (digit_ops times d s b) (gather_ops times d Temp bs) in
      omega (arith, digit_few d s b, gather_few d Temp bs, mul-add each 2 (2 * length bs))

  square_length : (d n : ℕ) → length (square_ops times d n) ≡ each * n
  unfolding square_ops
  square_length d zero = omega arith
  square_length d (suc n) =
      omega (arith, length-append (times d d d) (square_ops times d n), times-length d d d, square_length d n, mul-suc each n)

  positive_few : (size d s : ℕ) → 0 < size → size ≤ 2 ^ 31 → length (positive_ops times size d s) ≤ 1 + each * 60
  positive_few size d s h l =
      let digit-products = 2 * length (higher size) in
      let all_products = mul-le-mul_left each (products_few size h l) in
      let lengths = positive_length times size d s in
      omega (arith, gather_few d s (higher size), square_length d (closing size), mul-add each digit-products (closing size))

-- those of a plain product, and of one that is reduced
plain_few : (size d s : ℕ) → 0 < size → size ≤ 2 ^ 31 → length (positive_ops (product_ops None) size d s) ≤ 61
plain_few = positive_few (product_ops None) 1 (λ d s1 s2. refl)

reduced_few : (r size d s : ℕ) → 0 < size → size ≤ 2 ^ 31 → length (positive_ops (product_ops (Some r)) size d s) ≤ ops_per_node
reduced_few r = positive_few (product_ops (Some r)) 5 (λ d s1 s2. refl)

-- a power has those of its size, and a negative one its reciprocal
sized_few : (m : Option ℕ) (stable : Bool) (p : ℤ) (d s : ℕ) → nat_abs p ≤ 2 ^ 31
    → length (power_ops m stable p d s) ≤ ops_per_node
unfolding power_ops
sized_few m stable (pos zero) d s h = omega arith
sized_few None stable (pos (suc n)) d s h = omega (arith, plain_few (suc n) d s (omega arith) h)
sized_few (Some r) stable (pos (suc n)) d s h = reduced_few r (suc n) d s (omega arith) h
sized_few m true (negsuc n) d s h = omega (arith, plain_few (suc n) d d (omega arith) h)
sized_few m false (negsuc n) d s h =
    let joined = length-append (positive_ops (product_ops None) (suc n) d s) (op_uni recip_code d d ∷ []) in
    omega (arith, plain_few (suc n) d s (omega arith) h)

-- and no power that a word stands for is larger
power_few : (m : Option ℕ) (stable : Bool) (w d s : ℕ) → length (power_ops m stable (signed_of w) d s) ≤ ops_per_node
power_few m stable w d s = sized_few m stable (signed_of w) d s (signed_size w)

-- read from its word and handed on, it has the same operations
module _ (m : Option ℕ) (stable : Bool) {p : ℤ} (w d s : ℕ) (small : mag p < 2 ^ hbits w32) (read : p ≡ to_z w32 w) where
  same_ops : power_ops m stable (signed_of w) d s ≡ power_ops m stable (handed p) d s
  same_ops = ap (λ (p : ℤ). power_ops m stable p d s) (sym (to_z-of_z w32 p (record { sfits = small }) ∙ read ∙ read_signed w))

  handed_few : length (power_ops m stable (handed p) d s) ≤ ops_per_node
  handed_few = rw same_ops at (power_few m stable w d s)

  -- so it has room where a node has, and what is emitted is the node's
  pub power_room : (at : ℕ) → at + 6 * ops_per_node ≤ words_end → Room (power_ops m stable (handed p) d s) at
  power_room at room = omega (arith, handed_few)

  pub power_emitted : {old new : Output} → AllEmitted (power_ops m stable (handed p) d s) old new
      → Emitted (power_ops m stable (signed_of w) d s) ops_per_node old new
  power_emitted x = emitted_as handed_few same_ops x
