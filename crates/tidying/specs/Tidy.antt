-- Tidying: T-04, the real-mode rules of `Builder::create_binary` for times, divide and plus, in the order of builder.rs.
use Rattle.std.specs.Prelude.{ℕ, zero, suc, ◌+◌, Bool, false, cond, ◌&&◌, List, [], ◌∷◌, eqb}
use Rattle.operation.specs.declared.UnaryCode.{UnaryCode}
use Rattle.operation.specs.declared.UnaryCode.TheVariants.{Neg, Abs2, Recip, Real, Conjugate}
use Rattle.operation.specs.declared.BinaryCode.{BinaryCode}
use Rattle.operation.specs.declared.BinaryCode.TheVariants.{Plus, Minus, Times, Divide}
use Rattle.operation.specs.Numbers.{unary_number, binary_number}
use Rattle.operation.specs.declared.One.{One}
use Rattle.operation.specs.declared.One.TheVariants.{Unary, Power, Function1}
use Rattle.operation.specs.declared.Two.{Two}
use Rattle.operation.specs.declared.Two.TheVariants.{Binary, Choice, PowerMod, Function2}
use Rattle.definitions.specs.Tree.{Tree, constant, variable, one, two, weight}
use Rattle.definitions.specs.Same.{same}
use Rattle.definitions.specs.Statement.{Statement, assign, call, source}

-- T-04: 'A value matches 1 or −1': the constants that do, by their indices
pub record Units : Type 0 where
  pub is_one : ℕ → Bool
  pub is_minus : ℕ → Bool

-- node.rs, `is_const`: a constant that matches
abbrev pub is_const : (matches : ℕ → Bool) → Tree → Bool
is_const matches (constant i) = matches i
is_const matches (variable p) = false
is_const matches (one o a) = false
is_const matches (two o l r) = false

-- node.rs, `is_unary`
abbrev pub has_code : UnaryCode → One → Bool
has_code c (Unary d) = eqb (unary_number d) (unary_number c)
has_code c (Power stable w) = false
has_code c (Function1 f) = false

abbrev pub is_unary : UnaryCode → Tree → Bool
is_unary c (constant i) = false
is_unary c (variable p) = false
is_unary c (one o a) = has_code c o
is_unary c (two o l r) = false

-- node.rs, `arg`; a tree with none stands for itself
abbrev pub argument : Tree → Tree
argument (constant i) = constant i
argument (variable p) = variable p
argument (one o a) = a
argument (two o l r) = two o l r

-- 1 × t: t itself, or the real part of a constant
abbrev pub alone : Tree → Tree
alone (constant i) = one (Unary Real) (constant i)
alone (variable p) = variable p
alone (one o a) = one o a
alone (two o l r) = two o l r

-- what the first rule that fits makes: nothing, if none does; a tree; or an operation that goes through the rules again
pub data Outcome : Type 0 where
  stays : Outcome
  becomes : Tree → Outcome
  again : Two → (l r : Tree) → Outcome

abbrev pub times_rules : Units → (l r : Tree) → Outcome
times_rules u l r =
    cond (is_const u.is_minus l) (becomes (one (Unary Neg) r))
    (cond (is_const u.is_minus r) (becomes (one (Unary Neg) l))
    (cond (is_const u.is_one l) (becomes (alone r))
    (cond (is_const u.is_one r) (becomes (alone l))
    (cond (is_unary Recip l) (again (Binary Divide) r (argument l))
    (cond (is_unary Recip r) (again (Binary Divide) l (argument r))
    (cond (is_unary Conjugate r && same (argument r) l) (becomes (one (Unary Abs2) l))
    (cond (is_unary Conjugate l && same (argument l) r) (becomes (one (Unary Abs2) r))
    stays)))))))

abbrev pub divide_rules : (l r : Tree) → Outcome
divide_rules l r = cond (is_unary Recip r) (again (Binary Times) l (argument r)) stays

abbrev pub plus_rules : (l r : Tree) → Outcome
plus_rules l r =
    cond (is_unary Neg l) (again (Binary Minus) r (argument l))
    (cond (is_unary Neg r) (again (Binary Minus) l (argument r)) stays)

abbrev pub code_rules : Units → BinaryCode → (l r : Tree) → Outcome
code_rules u c l r =
    cond (eqb (binary_number c) (binary_number Times)) (times_rules u l r)
    (cond (eqb (binary_number c) (binary_number Divide)) (divide_rules l r)
    (cond (eqb (binary_number c) (binary_number Plus)) (plus_rules l r) stays))

unfoldable pub first_rule : Units → Two → (l r : Tree) → Outcome
first_rule u (Binary c) l r = code_rules u c l r
first_rule u (Choice p) l r = stays
first_rule u (PowerMod w) l r = stays
first_rule u (Function2 f) l r = stays

abbrev pub followed : (Two → Tree → Tree → Tree) → Two → (l r : Tree) → Outcome → Tree
followed make o l r stays = two o l r
followed make o l r (becomes t) = t
followed make o l r (again p x y) = make p x y

-- a result that goes through the rules again is lighter, so as many turns as the sides weigh are enough
unfoldable pub made : (turns : ℕ) → Units → Two → (l r : Tree) → Tree
made zero u o l r = two o l r
made (suc k) u o l r = followed (made k u) o l r (first_rule u o l r)

-- `create_binary`, of two sides that were made so
unfoldable pub joined : Units → Two → (l r : Tree) → Tree
joined u o l r = made (weight l + weight r) u o l r

-- 'as a pass from the leaves up'; all but binaries are 'made directly'
unfoldable pub tidy : Units → Tree → Tree
tidy u (constant i) = constant i
tidy u (variable p) = variable p
tidy u (one o a) = one o (tidy u a)
tidy u (two o l r) = joined u o (tidy u l) (tidy u r)

-- the statements of a sheet, which are assignments
abbrev pub tidied : Units → Statement → Statement
tidied u (assign p t) = assign p (tidy u t)
tidied u (call p c) = call p c

unfoldable pub tidied_all : Units → List Statement → List Statement
tidied_all u [] = []
tidied_all u (s ∷ ss) = tidied u s ∷ tidied_all u ss

-- the nodes of their trees
unfoldable pub nodes_of : List Statement → ℕ
nodes_of [] = 0
nodes_of (s ∷ ss) = weight (source s) + nodes_of ss
