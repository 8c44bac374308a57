-- There is a meaning in which tidying changes nothing, and −1 is not 1 in it: arithmetic modulo 3.
use mathlib.Core.Path.{◌≡◌, refl}
use mathlib.Core.Bool.{Bool, true, false, cond, false≢true}
use lib.Dec.{eqb}
use borrow.Author.Tests.{eqb-true}
use Rattle.operation.specs.Codes.{plus_code, minus_code, commutes}
use Rattle.tidying.specs.Codes.{neg_code, abs2_code}
use Rattle.tidying.specs.Tidy.{Units}
use Rattle.definitions.specs.Meaning.{Meaning, Commuting}
use Rattle.tidying.specs.Arithmetic.{Equations}

pub data Third : Type 0 where
  nought : Third
  unit : Third
  minus : Third

abbrev pub negate : Third → Third
negate nought = nought
negate unit = minus
negate minus = unit

abbrev pub next : Third → Third
next nought = unit
next unit = minus
next minus = nought

abbrev pub add : Third → Third → Third
add nought y = y
add unit y = next y
add minus y = next (next y)

abbrev pub multiply : Third → Third → Third
multiply nought y = nought
multiply unit y = y
multiply minus y = negate y

add_turned : (x y : Third) → add x y ≡ add y x
add_turned nought nought = refl
add_turned nought unit = refl
add_turned nought minus = refl
add_turned unit nought = refl
add_turned unit unit = refl
add_turned unit minus = refl
add_turned minus nought = refl
add_turned minus unit = refl
add_turned minus minus = refl

multiply_turned : (x y : Third) → multiply x y ≡ multiply y x
multiply_turned nought nought = refl
multiply_turned nought unit = refl
multiply_turned nought minus = refl
multiply_turned unit nought = refl
multiply_turned unit unit = refl
multiply_turned unit minus = refl
multiply_turned minus nought = refl
multiply_turned minus unit = refl
multiply_turned minus minus = refl

abbrev pub units : Units
units = record { is_one = λ i. eqb i 1; is_minus = λ i. eqb i 2 }

-- every number but 0 is its own inverse, so a quotient is a product
abbrev pub thirds : Meaning
thirds =
    record {
      Value = Third;
      constant_of = λ i. cond (eqb i 2) minus (cond (eqb i 1) unit nought);
      unary_of = λ c x. cond (eqb c neg_code) (negate x) (cond (eqb c abs2_code) (multiply x x) x);
      binary_of = λ c x y. cond (eqb c plus_code) (add x y) (cond (eqb c minus_code) (add x (negate y)) (multiply x y));
      choice_of = λ c x y. x;
      function1_of = λ f x. x;
      function2_of = λ f x y. x;
    }

thirds_commute : Commuting thirds
unfolding commutes
thirds_commute c e x y = go (eqb c plus_code) (eqb c minus_code) refl
  where
    go : (b d : Bool) → eqb c minus_code ≡ d →
        cond b (add x y) (cond d (add x (negate y)) (multiply x y)) ≡ cond b (add y x) (cond d (add y (negate x)) (multiply y x))
    go true d f = add_turned x y
    go false true f = absurd (false≢true (let z = eqb-true c minus_code f in rw z at e))
    go false false f = multiply_turned x y

pub tidying_is_sound : Equations units thirds
tidying_is_sound =
    record {
      commuting = thirds_commute;
      minus_times = λ i e x. rw e;
      one_times = λ i e x. rw (eqb-true i 1 e);
      real_constant = λ i. refl;
      times_recip = λ x y. refl;
      divide_recip = λ x y. refl;
      times_conjugate = λ x. refl;
      plus_neg = λ x y. refl;
    }
