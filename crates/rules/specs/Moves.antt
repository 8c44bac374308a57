-- The rules over linked rows: what a move stands for, and where it leads.
use Rattle.std.specs.Prelude.{◌≡◌, Bool, ◌&&◌, ◌||◌, ℕ, ◌+◌, ◌<◌, ◌≤◌, min, List, Option, Some, None}
use Rattle.operation.specs.Numbers.{binary_number}
use Rattle.operation.specs.declared.BinaryCode.{BinaryCode}
use Rattle.operation.specs.declared.UnaryCode.TheVariants.{Neg, Abs2, Recip, Conjugate}
use Rattle.operation.specs.declared.One.TheVariants.{Unary}
use Rattle.operation.specs.declared.Two.TheVariants.{Binary}
use Rattle.definitions.specs.Tree.{Tree, one, two}
use Rattle.definitions.specs.Same.{same}
use Rattle.tidying.specs.Units.{is_unit, units_of}
use Rattle.tidying.specs.Tidy.{Units, is_const, is_unary, argument, alone, Outcome, stays, becomes, again, code_rules, joined}
use Rattle.values.specs.declared.Unit.{Unit as AskedUnit}
use Rattle.values.specs.Signs.{is_negative}
use Rattle.links.specs.Links.{Row, linked}
use Rattle.rules.specs.declared.Rules.{Rules}
use Rattle.rules.specs.declared.Move.{Move}
use Rattle.rules.specs.declared.Move.TheVariants.{Ends, Again}
use Rattle.rules.specs.declared.Made.{Made}
use Rattle.rules.specs.declared.Made.TheVariants as M

-- a factor that goes, whatever the other is: −1, 1 or a reciprocal
abbrev pub goes : Units → Tree → Bool
goes u t = (is_const u.is_minus t || is_const u.is_one t) || is_unary Recip t

-- a is the conjugate of b
abbrev pub conjugates : (a b : Tree) → Bool
conjugates a b = is_unary Conjugate a && same (argument a) b

abbrev pub made_tree : (tree : ℕ → Tree) → Made → Tree
made_tree tree (M.Node c x y) = two (Binary c) (tree x) (tree y)
made_tree tree (M.Neg j) = one (Unary Neg) (tree j)
made_tree tree (M.Alone j) = alone (tree j)
made_tree tree (M.Abs2 j) = one (Unary Abs2) (tree j)

abbrev pub outcome_of : (tree : ℕ → Tree) → Option Move → Outcome
outcome_of tree None = stays
outcome_of tree (Some (Ends m)) = becomes (made_tree tree m)
outcome_of tree (Some (Again c x y)) = again (Binary c) (tree x) (tree y)

-- a linked row that is not before lo
pub record From (rows : List ℕ) (lo j : ℕ) : Type 0 where
  pub from : lo ≤ j
  pub row : Row rows j

-- its rows are linked and not before lo
abbrev pub Within : (rows : List ℕ) (lo : ℕ) → Made → Type 0
Within rows lo (M.Node c x y) = (binary_number c < 256) × From rows lo x × From rows lo y
Within rows lo (M.Neg j) = From rows lo j
Within rows lo (M.Alone j) = From rows lo j
Within rows lo (M.Abs2 j) = From rows lo j

-- numbers grow
abbrev pub Onward : (rows : List ℕ) (l r : ℕ) → Option Move → Type 0
Onward rows l r None = Unit {0}
Onward rows l r (Some (Ends m)) = Within rows (min l r) m
Onward rows l r (Some (Again c x y)) = (l + r < x + y) × From rows (min l r) x × From rows (min l r) y

pub record Moved (rows : List ℕ) (l r : ℕ) (s : Outcome) (m : Option Move) : Type 0 where
  pub outcome : outcome_of (linked rows) m ≡ s
  pub onward : Onward rows l r m

-- the operation over rows l and r, tidied
pub record Settled (values rows : List ℕ) (code : BinaryCode) (l r : ℕ) (m : Made) : Type 0 where
  pub tree : made_tree (linked rows) m ≡ joined (units_of values) (Binary code) (linked rows l) (linked rows r)
  pub within : Within rows (min l r) m

-- ---- over what the rules look at

abbrev pub units : Rules → Units
units t = units_of t.values.now

-- the tree of row j
abbrev pub tree : Rules → ℕ → Tree
tree t j = linked t.links.rows.now j

-- is row j a constant of the unit's value?
abbrev pub holds : Rules → AskedUnit → (j : ℕ) → Bool
holds t unit j = is_const (is_unit (is_negative unit) t.values.now) (tree t j)

-- the move of rows l and r is what the rule makes of their trees
abbrev pub Moves : (t : Rules) (rule : (l r : Tree) → Outcome) (l r : ℕ) → Option Move → Type 0
Moves t rule l r m = Moved t.links.rows.now l r (rule (tree t l) (tree t r)) m

-- no rule of the code fits rows l and r
abbrev pub NoneFits : (t : Rules) (code : BinaryCode) (l r : ℕ) → Type 0
NoneFits t code l r = code_rules (units t) code (tree t l) (tree t r) ≡ stays

abbrev pub Settles : (t : Rules) (code : BinaryCode) (l r : ℕ) → Made → Type 0
Settles t code l r m = Settled t.values.now t.links.rows.now code l r m
