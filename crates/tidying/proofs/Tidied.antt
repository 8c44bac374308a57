-- Values and formulas, computed by the definition: which values match, and what formulas become where constant 1 is 1 and
-- constant 2 is −1.
use Prim.Native.String.{String}
use mathlib.Core.Bool.{Bool, true, false, ◌||◌}
use mathlib.Core.List.{List, [], ◌∷◌}
use lib.Ieee.{of_bits, eq}
use mathlib.Core.Path.{◌≡◌, refl}
use lib.Dec.{eqb}
use Rattle.symbol.specs.declared.Loc.TheVariants.{Mem}
use Rattle.symbol.specs.Place.{same_place}
use Rattle.operation.specs.Codes.{commutes}
use Rattle.operation.specs.declared.UnaryCode.TheVariants.{Neg, Abs2, Recip, Real, Conjugate}
use Rattle.operation.specs.declared.BinaryCode.TheVariants.{Plus, Minus, Times, Divide}
use Rattle.operation.specs.Numbers.{unary_number, binary_number}
use Rattle.operation.specs.Names.{bytes}
use Rattle.operation.specs.declared.One.TheVariants.{Unary}
use Rattle.operation.specs.declared.Two.TheVariants.{Binary}
use Rattle.definitions.specs.Tree.{Tree, constant, variable, one, two, weight}
use Rattle.definitions.specs.Same.{same}
use Rattle.tidying.specs.Tidy.{Units, first_rule, made, joined, tidy}
use Rattle.tidying.specs.Units.{is_unit}
use Rattle.definitions.proofs.Computing.{from_digits}

unfoldable any_of : List Bool → Bool
any_of [] = false
any_of (b ∷ bs) = b || any_of bs

-- does the value of eight bytes match
unfoldable matches : (negative : Bool) (value : String) → Bool
unfolding from_digits bytes is_unit of_bits eq
matches negative value = is_unit negative (from_digits (bytes value)) 0

one_matches : (matches false "000000000000f03f" ≡ true) × (matches true "000000000000f03f" ≡ false)
unfolding matches
one_matches = (refl, refl)

minus_matches : (matches false "000000000000f0bf" ≡ false) × (matches true "000000000000f0bf" ≡ true)
unfolding matches
minus_matches = (refl, refl)

-- NaN, infinity, 0, the number after 1, and 1 cut short
abbrev others : List Bool
others =
    matches false "000000000000f87f" ∷ matches true "000000000000f8ff" ∷ matches false "000000000000f07f"
    ∷ matches false "0000000000000000" ∷ matches false "010000000000f03f" ∷ matches false "000000000000f0" ∷ []

none_matches : any_of others ≡ false
unfolding matches any_of
none_matches = refl

abbrev u : Units
u = record { is_one = λ i. eqb i 1; is_minus = λ i. eqb i 2 }

abbrev m0 : Tree
m0 = variable (Mem 0)

abbrev m1 : Tree
m1 = variable (Mem 1)

abbrev times : Tree → Tree → Tree
times l r = two (Binary Times) l r

abbrev divide : Tree → Tree → Tree
divide l r = two (Binary Divide) l r

abbrev plus : Tree → Tree → Tree
plus l r = two (Binary Plus) l r

abbrev neg : Tree → Tree
neg a = one (Unary Neg) a

abbrev recip : Tree → Tree
recip a = one (Unary Recip) a

minus_twice : tidy u (times (constant 2) (times (constant 2) m0)) ≡ neg (neg m0)
unfolding tidy joined made first_rule weight unary_number binary_number
minus_twice = refl

-- −1 on the right comes before 1 on the left
minus_first : tidy u (times (constant 1) (constant 2)) ≡ neg (constant 1)
unfolding tidy joined made first_rule weight unary_number binary_number
minus_first = refl

one_times_constant : tidy u (times (constant 1) (constant 0)) ≡ one (Unary Real) (constant 0)
unfolding tidy joined made first_rule weight unary_number binary_number
one_times_constant = refl

-- recip is the unary only
quotient_stays : tidy u (times m0 (divide (constant 1) m1)) ≡ times m0 (divide (constant 1) m1)
unfolding tidy joined made first_rule weight same commutes unary_number binary_number
quotient_stays = refl

-- results go through the rules again
three_recips : tidy u (times m0 (recip (recip (recip m1)))) ≡ divide m0 m1
unfolding tidy joined made first_rule weight same commutes unary_number binary_number
three_recips = refl

recip_left_first : tidy u (times (recip m0) (recip (recip m1))) ≡ divide (recip (recip m1)) m0
unfolding tidy joined made first_rule weight same commutes unary_number binary_number
recip_left_first = refl

to_minus_one : tidy u (divide m0 (recip (constant 2))) ≡ neg m0
unfolding tidy joined made first_rule weight same commutes unary_number binary_number
to_minus_one = refl

neg_left_first : tidy u (plus (neg m0) (neg m1)) ≡ two (Binary Minus) (neg m1) m0
unfolding tidy joined made first_rule weight unary_number binary_number
neg_left_first = refl

-- same trees, sides exchanged
conjugates : tidy u (times (plus m0 m1) (one (Unary Conjugate) (plus m1 m0))) ≡ one (Unary Abs2) (plus m0 m1)
unfolding tidy joined made first_rule weight same commutes same_place unary_number binary_number
conjugates = refl
