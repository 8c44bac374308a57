-- Which rule a step took; that enough turns are enough; and what holds of every rule holds of tidying. Assumes nothing.
use mathlib.Core.Path.{◌≡◌, refl, ap}
use mathlib.Core.Bool.{Bool, true, false, cond, ◌&&◌, false≢true}
use Prim.Native.Nat.{ℕ, zero, suc, ◌+◌, ◌<◌, ◌≤◌}
use native.Mathlib.Omega.{arith}
use lib.Dec.{eqb}
use borrow.Author.Tests.{eqb-true}
use Rattle.operation.specs.declared.UnaryCode.{UnaryCode}
use Rattle.operation.specs.declared.UnaryCode.TheVariants.{Neg, Abs2, Recip, Conjugate}
use Rattle.operation.specs.declared.BinaryCode.{BinaryCode}
use Rattle.operation.specs.declared.BinaryCode.TheVariants.{Plus, Minus, Times, Divide}
use Rattle.operation.specs.Numbers.{unary_number, binary_number}
use Rattle.operation.proofs.Numbers.{unary_number_tells, binary_number_tells}
use Rattle.operation.specs.declared.One.{One}
use Rattle.operation.specs.declared.One.TheVariants.{Unary, Power, Function1}
use Rattle.operation.specs.declared.Two.{Two}
use Rattle.operation.specs.declared.Two.TheVariants.{Binary, Choice, PowerMod, Function2}
use Rattle.definitions.specs.Tree.{Tree, constant, variable, one, two, weight}
use Rattle.definitions.specs.Same.{same}
use Rattle.definitions.proofs.Comparing.{and_both}
use Rattle.tidying.specs.Tidy.{Units, is_const, has_code, is_unary, argument, alone, Outcome, stays, becomes, again}
use Rattle.tidying.specs.Tidy.{times_rules, divide_rules, plus_rules, code_rules, first_rule, followed, made, joined, tidy}

-- the rules, each with what it fits
pub data Rule (u : Units) : Two → Tree → Tree → Outcome → Type 0 where
  none : (o : Two) (l r : Tree) → Rule u o l r stays
  minus_left : (i : ℕ) (r : Tree) → u.is_minus i ≡ true →
      Rule u (Binary Times) (constant i) r (becomes (one (Unary Neg) r))
  minus_right : (i : ℕ) (l : Tree) → u.is_minus i ≡ true →
      Rule u (Binary Times) l (constant i) (becomes (one (Unary Neg) l))
  one_left : (i : ℕ) (r : Tree) → u.is_one i ≡ true → Rule u (Binary Times) (constant i) r (becomes (alone r))
  one_right : (i : ℕ) (l : Tree) → u.is_one i ≡ true → Rule u (Binary Times) l (constant i) (becomes (alone l))
  recip_left : (a r : Tree) → Rule u (Binary Times) (one (Unary Recip) a) r (again (Binary Divide) r a)
  recip_right : (l a : Tree) → Rule u (Binary Times) l (one (Unary Recip) a) (again (Binary Divide) l a)
  conjugate_right : (l a : Tree) → same a l ≡ true →
      Rule u (Binary Times) l (one (Unary Conjugate) a) (becomes (one (Unary Abs2) l))
  conjugate_left : (a r : Tree) → same a r ≡ true →
      Rule u (Binary Times) (one (Unary Conjugate) a) r (becomes (one (Unary Abs2) r))
  over_recip : (l a : Tree) → Rule u (Binary Divide) l (one (Unary Recip) a) (again (Binary Times) l a)
  neg_left : (a r : Tree) → Rule u (Binary Plus) (one (Unary Neg) a) r (again (Binary Minus) r a)
  neg_right : (l a : Tree) → Rule u (Binary Plus) l (one (Unary Neg) a) (again (Binary Minus) l a)

-- what a test tells of a side
const_found : (P : Tree → Type 0) (f : ℕ → Bool) (t : Tree) → is_const f t ≡ true →
    ((i : ℕ) → f i ≡ true → P (constant i)) → P t
const_found P f (constant i) e k = k i e
const_found P f (variable p) e k = absurd (false≢true e)
const_found P f (one o a) e k = absurd (false≢true e)
const_found P f (two o l r) e k = absurd (false≢true e)

code_found : (P : One → Type 0) (c : UnaryCode) (o : One) → has_code c o ≡ true → P (Unary c) → P o
code_found P c (Unary d) e k = rw (unary_number_tells d c (eqb-true (unary_number d) (unary_number c) e)) k
code_found P c (Power stable w) e k = absurd (false≢true e)
code_found P c (Function1 f) e k = absurd (false≢true e)

unary_found : (P : Tree → Tree → Type 0) (c : UnaryCode) (t : Tree) → is_unary c t ≡ true →
    ((a : Tree) → P (one (Unary c) a) a) → P t (argument t)
unary_found P c (constant i) e k = absurd (false≢true e)
unary_found P c (variable p) e k = absurd (false≢true e)
unary_found P c (one o a) e k = code_found (λ x. P (one x a) a) c o e (k a)
unary_found P c (two o l r) e k = absurd (false≢true e)

by_cond : (P : Outcome → Type 0) (b : Bool) (s t : Outcome) → (b ≡ true → P s) → (b ≡ false → P t) → P (cond b s t)
by_cond P true s t f g = f refl
by_cond P false s t f g = g refl

-- what was found of the left side, and of the right: the constant, or the unary with its argument
module _ (u : Units) (o : Two) (l r : Tree) where
  left_const : (f : ℕ → Bool) (s : Outcome) → is_const f l ≡ true →
      ((i : ℕ) → f i ≡ true → Rule u o (constant i) r s) → Rule u o l r s
  left_const f s = const_found (λ x. Rule u o x r s) f l

  right_const : (f : ℕ → Bool) (s : Outcome) → is_const f r ≡ true →
      ((i : ℕ) → f i ≡ true → Rule u o l (constant i) s) → Rule u o l r s
  right_const f s = const_found (λ x. Rule u o l x s) f r

  left_unary : (c : UnaryCode) (s : Tree → Outcome) → is_unary c l ≡ true → ((a : Tree) → Rule u o (one (Unary c) a) r (s a)) →
      Rule u o l r (s (argument l))
  left_unary c s = unary_found (λ x a. Rule u o x r (s a)) c l

  right_unary : (c : UnaryCode) (s : Tree → Outcome) → is_unary c r ≡ true → ((a : Tree) → Rule u o l (one (Unary c) a) (s a)) →
      Rule u o l r (s (argument r))
  right_unary c s = unary_found (λ x a. Rule u o l x (s a)) c r

-- a conjugate of the other side
left_conjugate : (u : Units) (l r : Tree) → (is_unary Conjugate l && same (argument l) r) ≡ true →
    Rule u (Binary Times) l r (becomes (one (Unary Abs2) r))
left_conjugate u l r e =
    let found = and_both _ _ e in
    unary_found (λ x a. same a r ≡ true → Rule u (Binary Times) x r (becomes (one (Unary Abs2) r))) Conjugate l
    found.0 (λ a s. conjugate_left a r s) found.1

right_conjugate : (u : Units) (l r : Tree) → (is_unary Conjugate r && same (argument r) l) ≡ true →
    Rule u (Binary Times) l r (becomes (one (Unary Abs2) l))
right_conjugate u l r e =
    let found = and_both _ _ e in
    unary_found (λ x a. same a l ≡ true → Rule u (Binary Times) l x (becomes (one (Unary Abs2) l))) Conjugate r
    found.0 (λ a s. conjugate_right l a s) found.1

module _ (u : Units) where
  times_rule : (l r : Tree) → Rule u (Binary Times) l r (times_rules u l r)
  times_rule l r =
      let times = Binary Times in
      let R : Outcome → Type 0 = Rule u times l r in
      let over : Tree → Tree → Outcome = again (Binary Divide) in
      by_cond R _ _ _ (λ e. left_const u times l r _ _ e (λ i h. minus_left i r h))
      (λ _. by_cond R _ _ _ (λ e. right_const u times l r _ _ e (λ i h. minus_right i l h))
      (λ _. by_cond R _ _ _ (λ e. left_const u times l r _ _ e (λ i h. one_left i r h))
      (λ _. by_cond R _ _ _ (λ e. right_const u times l r _ _ e (λ i h. one_right i l h))
      (λ _. by_cond R _ _ _ (λ e. left_unary u times l r Recip (over r) e (λ a. recip_left a r))
      (λ _. by_cond R _ _ _ (λ e. right_unary u times l r Recip (over l) e (λ a. recip_right l a))
      (λ _. by_cond R _ _ _ (λ e. right_conjugate u l r e)
      (λ _. by_cond R _ _ _ (λ e. left_conjugate u l r e) (λ _. none times l r))))))))

  divide_rule : (l r : Tree) → Rule u (Binary Divide) l r (divide_rules l r)
  divide_rule l r =
      let divide = Binary Divide in
      by_cond (Rule u divide l r) _ _ _
      (λ e. right_unary u divide l r Recip (again (Binary Times) l) e (λ a. over_recip l a)) (λ _. none divide l r)

  plus_rule : (l r : Tree) → Rule u (Binary Plus) l r (plus_rules l r)
  plus_rule l r =
      let plus = Binary Plus in
      let R : Outcome → Type 0 = Rule u plus l r in
      let less : Tree → Tree → Outcome = again (Binary Minus) in
      by_cond R _ _ _ (λ e. left_unary u plus l r Neg (less r) e (λ a. neg_left a r))
      (λ _. by_cond R _ _ _ (λ e. right_unary u plus l r Neg (less l) e (λ a. neg_right l a)) (λ _. none plus l r))

  code_rule : (c : BinaryCode) (l r : Tree) → Rule u (Binary c) l r (code_rules u c l r)
  code_rule c l r =
      let R : Outcome → Type 0 = Rule u (Binary c) l r in
      let code : (d : BinaryCode) → eqb (binary_number c) (binary_number d) ≡ true → c ≡ d
      = λ d e. binary_number_tells c d (eqb-true (binary_number c) (binary_number d) e) in
      by_cond R _ _ _ (λ e. rw (code Times e) (times_rule l r))
      (λ _. by_cond R _ _ _ (λ e. rw (code Divide e) (divide_rule l r))
      (λ _. by_cond R _ _ _ (λ e. rw (code Plus e) (plus_rule l r)) (λ _. none (Binary c) l r)))

  -- what is made is a rule's
  pub first_rule_lem : (o : Two) (l r : Tree) → Rule u o l r (first_rule u o l r)
  unfolding first_rule
  first_rule_lem (Binary c) l r = code_rule c l r
  first_rule_lem (Choice p) l r = none (Choice p) l r
  first_rule_lem (PowerMod w) l r = none (PowerMod w) l r
  first_rule_lem (Function2 f) l r = none (Function2 f) l r

  -- by cases of what the first rule makes
  pub by_rule : (o : Two) (l r : Tree) (Q : Outcome → Type 0) → (first_rule u o l r ≡ stays → Q stays) →
      ((t : Tree) → Rule u o l r (becomes t) → Q (becomes t)) →
      ((p : Two) (x y : Tree) → Rule u o l r (again p x y) → Q (again p x y)) → Q (first_rule u o l r)
  by_rule o l r Q f g h = go (first_rule u o l r) refl (first_rule_lem o l r)
    where
      go : (s : Outcome) → first_rule u o l r ≡ s → Rule u o l r s → Q s
      go stays e k = f e
      go (becomes t) e k = g t k
      go (again p x y) e k = h p x y k

-- ---- turns

weight_positive : (t : Tree) → 0 < weight t
unfolding weight
weight_positive (constant k) = omega arith
weight_positive (variable p) = omega arith
weight_positive (one o a) = omega arith
weight_positive (two o l r) = omega arith

-- what goes through the rules again is lighter
pub rule_lighter : {u : Units} {o p : Two} {l r x y : Tree} → Rule u o l r (again p x y) → weight x + weight y < weight l + weight r
unfolding weight
rule_lighter (recip_left a r) = omega arith
rule_lighter (recip_right l a) = omega arith
rule_lighter (over_recip l a) = omega arith
rule_lighter (neg_left a r) = omega arith
rule_lighter (neg_right l a) = omega arith

module _ (u : Units) where
  enough : (k j : ℕ) (o : Two) (l r : Tree) → weight l + weight r ≤ k → weight l + weight r ≤ j →
      made k u o l r ≡ made j u o l r
  unfolding made
  enough zero j o l r a b = absurd (omega (arith, weight_positive l))
  enough (suc k) zero o l r a b = absurd (omega (arith, weight_positive l))
  enough (suc k) (suc j) o l r a b =
      by_rule u o l r (λ s. followed (made k u) o l r s ≡ followed (made j u) o l r s) (λ e. refl) (λ t h. refl)
      (λ p x y h. enough k j p x y (omega (arith, rule_lighter h)) (omega (arith, rule_lighter h)))

  -- the turns do not show: the first rule that fits, and its result through the rules again
  pub joined_step : (o : Two) (l r : Tree) → joined u o l r ≡ followed (joined u) o l r (first_rule u o l r)
  unfolding joined made
  joined_step o l r = turn (weight l + weight r) refl
    where
      turn : (w : ℕ) → weight l + weight r ≡ w → made w u o l r ≡ followed (joined u) o l r (first_rule u o l r)
      turn zero e = absurd (omega (arith, weight_positive l))
      turn (suc k) e =
          by_rule u o l r (λ s. followed (made k u) o l r s ≡ followed (joined u) o l r s) (λ e. refl) (λ t h. refl)
          (λ p x y h. enough k (weight x + weight y) p x y (omega (arith, rule_lighter h)) (omega arith))

-- ---- what holds of every rule holds of tidying

pub record Kept (u : Units) (R : Tree → Tree → Type 0) : Type 0 where
  pub self : (t : Tree) → R t t
  pub chain : (a b c : Tree) → R a b → R b c → R a c
  pub under1 : (o : One) (a b : Tree) → R a b → R (one o a) (one o b)
  pub under2 : (o : Two) (l r x y : Tree) → R l x → R r y → R (two o l r) (two o x y)
  pub rule : {o : Two} {l r : Tree} {s : Outcome} → Rule u o l r s → R (two o l r) (followed two o l r s)

module _ (u : Units) (R : Tree → Tree → Type 0) (kept : Kept u R) where
  made_keeps : (k : ℕ) (o : Two) (l r : Tree) → R (two o l r) (made k u o l r)
  unfolding made
  made_keeps zero o l r = kept.self (two o l r)
  made_keeps (suc k) o l r =
      by_rule u o l r (λ s. R (two o l r) (followed (made k u) o l r s)) (λ e. kept.self (two o l r))
      (λ t h. kept.rule h)
      (λ p x y h. kept.chain (two o l r) (two p x y) _ (kept.rule h) (made_keeps k p x y))

  pub tidy_keeps : (t : Tree) → R t (tidy u t)
  unfolding tidy joined
  tidy_keeps (constant i) = kept.self (constant i)
  tidy_keeps (variable p) = kept.self (variable p)
  tidy_keeps (one o a) = kept.under1 o a (tidy u a) (tidy_keeps a)
  tidy_keeps (two o l r) =
      kept.chain _ _ _ (kept.under2 o l r (tidy u l) (tidy u r) (tidy_keeps l) (tidy_keeps r))
      (made_keeps (weight (tidy u l) + weight (tidy u r)) o (tidy u l) (tidy u r))

-- ---- twice is once

-- no rule fits in the tree
unfoldable pub Neat : Units → Tree → Type 0
Neat u (constant i) = Unit {0}
Neat u (variable p) = Unit {0}
Neat u (one o a) = Neat u a
Neat u (two o l r) = Neat u l × Neat u r × (first_rule u o l r ≡ stays)

NeatOutcome : Units → Outcome → Type 0
NeatOutcome u stays = Unit {0}
NeatOutcome u (becomes t) = Neat u t
NeatOutcome u (again p x y) = Neat u x × Neat u y

module _ (u : Units) where
  alone_neat : (t : Tree) → Neat u t → Neat u (alone t)
  unfolding Neat
  alone_neat (constant i) h = h
  alone_neat (variable p) h = h
  alone_neat (one o a) h = h
  alone_neat (two o l r) h = h

  rule_neat : {o : Two} {l r : Tree} {s : Outcome} → Rule u o l r s → Neat u l → Neat u r → NeatOutcome u s
  unfolding Neat NeatOutcome
  rule_neat (none o l r) a b = tt
  rule_neat (minus_left i r e) a b = b
  rule_neat (minus_right i l e) a b = a
  rule_neat (one_left i r e) a b = alone_neat r b
  rule_neat (one_right i l e) a b = alone_neat l a
  rule_neat (recip_left x r) a b = (b, a)
  rule_neat (recip_right l x) a b = (a, b)
  rule_neat (conjugate_right l x e) a b = a
  rule_neat (conjugate_left x r e) a b = b
  rule_neat (over_recip l x) a b = (a, b)
  rule_neat (neg_left x r) a b = (b, a)
  rule_neat (neg_right l x) a b = (a, b)

  made_neat : (k : ℕ) (o : Two) (l r : Tree) → weight l + weight r ≤ k → Neat u l → Neat u r → Neat u (made k u o l r)
  unfolding made Neat NeatOutcome
  made_neat zero o l r w a b = absurd (omega (arith, weight_positive l))
  made_neat (suc k) o l r w a b =
      by_rule u o l r (λ s. Neat u (followed (made k u) o l r s)) (λ e. (a, b, e)) (λ t h. rule_neat h a b)
      (λ p x y h. let n = rule_neat h a b in made_neat k p x y (omega (arith, rule_lighter h)) n.0 n.1)

  pub tidy_neat : (t : Tree) → Neat u (tidy u t)
  unfolding tidy joined Neat
  tidy_neat (constant i) = tt
  tidy_neat (variable p) = tt
  tidy_neat (one o a) = tidy_neat a
  tidy_neat (two o l r) = made_neat _ o (tidy u l) (tidy u r) (omega arith) (tidy_neat l) (tidy_neat r)

  pub neat_tidy : (t : Tree) → Neat u t → tidy u t ≡ t
  unfolding tidy Neat
  neat_tidy (constant i) h = refl
  neat_tidy (variable p) h = refl
  neat_tidy (one o a) h = ap (one o) (neat_tidy a h)
  neat_tidy (two o l r) h = rw (neat_tidy l h.0, neat_tidy r h.1, joined_step u o l r, h.2)

  pub tidy_once : (t : Tree) → tidy u (tidy u t) ≡ tidy u t
  tidy_once t = neat_tidy (tidy u t) (tidy_neat t)
