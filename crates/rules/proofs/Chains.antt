-- Rules tried one after another: what is left once the first ones do not fit, and where none fits. Assumes nothing.
use mathlib.Core.Path.{◌≡◌, refl, sym, ◌∙◌}
use mathlib.Core.Bool.{Bool, true, false, cond}
use mathlib.Core.List.{List, [], ◌∷◌}
use Rattle.operation.specs.declared.UnaryCode.TheVariants.{Neg, Abs2, Recip}
use Rattle.operation.specs.declared.BinaryCode.TheVariants.{Minus, Times, Divide}
use Rattle.operation.specs.declared.One.TheVariants.{Unary}
use Rattle.operation.specs.declared.Two.TheVariants.{Binary}
use Rattle.definitions.specs.Tree.{Tree, one}
use Rattle.tidying.specs.Tidy.{Units, is_const, is_unary, argument, alone, Outcome, stays, becomes, again}
use Rattle.tidying.specs.Tidy.{times_rules, divide_rules, plus_rules}
use Rattle.rules.specs.Moves.{conjugates}

-- a rule: does it fit, and what does it make?
abbrev pub Rule : Type 0
Rule = Bool × Outcome

abbrev first_of : List Rule → Outcome
first_of [] = stays
first_of (rule ∷ rest) = cond rule.0 rule.1 (first_of rest)

-- s is what the first of these rules that fits makes
pub record Left (s : Outcome) (rules : List Rule) : Type 0 where
  told : s ≡ first_of rules

module _ {s t : Outcome} {fits : Bool} {rest : List Rule} (left : Left s ((fits, t) ∷ rest)) where
  pub first_fits : fits ≡ true → t ≡ s
  first_fits e = sym (left.told ∙ rw e)

  pub first_fails : fits ≡ false → Left s rest
  first_fails e = record { told = left.told ∙ rw e }

pub none_left : {s : Outcome} → Left s [] → stays ≡ s
none_left left = sym left.told

-- ---- the chains of the definition

abbrev pub times_chain : Units → (l r : Tree) → List Rule
times_chain u l r =
    (is_const u.is_minus l, becomes (one (Unary Neg) r))
    ∷ (is_const u.is_minus r, becomes (one (Unary Neg) l))
    ∷ (is_const u.is_one l, becomes (alone r))
    ∷ (is_const u.is_one r, becomes (alone l))
    ∷ (is_unary Recip l, again (Binary Divide) r (argument l))
    ∷ (is_unary Recip r, again (Binary Divide) l (argument r))
    ∷ (conjugates r l, becomes (one (Unary Abs2) l))
    ∷ (conjugates l r, becomes (one (Unary Abs2) r))
    ∷ []

abbrev pub divide_chain : (l r : Tree) → List Rule
divide_chain l r = (is_unary Recip r, again (Binary Times) l (argument r)) ∷ []

abbrev pub plus_chain : (l r : Tree) → List Rule
plus_chain l r =
    (is_unary Neg l, again (Binary Minus) r (argument l)) ∷ (is_unary Neg r, again (Binary Minus) l (argument r)) ∷ []

pub times_chain_lem : (u : Units) (l r : Tree) → Left (times_rules u l r) (times_chain u l r)
times_chain_lem u l r = record { told = refl }

pub divide_chain_lem : (l r : Tree) → Left (divide_rules l r) (divide_chain l r)
divide_chain_lem l r = record { told = refl }

pub plus_chain_lem : (l r : Tree) → Left (plus_rules l r) (plus_chain l r)
plus_chain_lem l r = record { told = refl }
