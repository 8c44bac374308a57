-- Moves over linked rows: where a rule leads, and what the rules make until none fits. Assumes nothing.
use mathlib.Core.Path.{◌≡◌, sym, ap, ◌∙◌}
use mathlib.Core.Bool.{Bool, true, false}
use mathlib.Core.List.{List}
use Rattle.std.proofs.Common.{Option, Some, None}
use Prim.Native.Nat.{ℕ, ◌+◌, ◌<◌, ◌≤◌, min}
use native.Mathlib.Omega.{arith}
use lib.Dec.{eqb}
use Rattle.operation.specs.Numbers.{binary_number}
use Rattle.operation.specs.declared.UnaryCode.{UnaryCode}
use Rattle.operation.specs.declared.UnaryCode.TheVariants.{Conjugate}
use Rattle.operation.specs.declared.BinaryCode.{BinaryCode}
use Rattle.operation.specs.declared.Two.TheVariants.{Binary}
use Rattle.definitions.specs.Tree.{Tree}
use Rattle.definitions.specs.Same.{same}
use Rattle.tidying.specs.Units.{units_of}
use Rattle.tidying.specs.Tidy.{is_unary, argument, Outcome, again, code_rules, first_rule, followed, joined}
use Rattle.tidying.proofs.Rules.{joined_step}
use Rattle.node.specs.Nodes.{end_at}
use Rattle.mix.specs.Mix.{mix}
use Rattle.links.specs.declared.LinkedRows.{LinkedRows}
use Rattle.links.specs.Links.{linked}
use Rattle.links.proofs.LinkedFrom.{row_of}
use Rattle.alike.specs.Alike.{Comparable}
use Rattle.alike.proofs.HeadsDecide.{other_mixes_differ}
use Rattle.rules.specs.declared.Move.{Move}
use Rattle.rules.specs.declared.Move.TheVariants.{Ends, Again}
use Rattle.rules.specs.declared.Made.{Made}
use Rattle.rules.specs.declared.Made.TheVariants as M
use Rattle.rules.specs.Moves.{conjugates, outcome_of, From, Onward, Moved, Within, Settled}
use Rattle.rules.proofs.Rows.{Argument, row_argument}

-- ---- moves

module _ {t : LinkedRows} {l r : ℕ} (pair : Comparable t l r) where
  pub from_left : From t.rows.now (min l r) l
  from_left = record { from = omega arith; row = row_of t pair.first }

  pub from_right : From t.rows.now (min l r) r
  from_right = record { from = omega arith; row = row_of t pair.second }

  -- side j is a unary: its argument e goes on, beside the other side x
  again_by : (c : BinaryCode) (d : UnaryCode) (x j : ℕ) {e : ℕ} {s : Outcome} → l + r ≡ x + j →
      From t.rows.now (min l r) x → From t.rows.now (min l r) j →
      is_unary d (linked t.rows.now j) ≡ true → e ≡ end_at t.rows.now j →
      again (Binary c) (linked t.rows.now x) (argument (linked t.rows.now j)) ≡ s → Moved t.rows.now l r s (Some (Again c x e))
  again_by c d x j sum other side h is told =
      let a = row_argument side.row d h is in
      record {
        outcome = rw a.tree told;
        onward = (
          omega (arith, a.after),
          other,
          record { from = omega (arith, a.after, side.from); row = a.row },
        );
      }

  module _ (c : BinaryCode) (d : UnaryCode) {e : ℕ} {s : Outcome} where
    pub left_argument : is_unary d (linked t.rows.now l) ≡ true → e ≡ end_at t.rows.now l →
        again (Binary c) (linked t.rows.now r) (argument (linked t.rows.now l)) ≡ s → Moved t.rows.now l r s (Some (Again c r e))
    left_argument h is told = again_by c d r l (omega arith) from_right from_left h is told

    pub right_argument : is_unary d (linked t.rows.now r) ≡ true → e ≡ end_at t.rows.now r →
        again (Binary c) (linked t.rows.now l) (argument (linked t.rows.now r)) ≡ s → Moved t.rows.now l r s (Some (Again c l e))
    right_argument h is told = again_by c d l r (omega arith) from_left from_right h is told

-- ---- conjugates

module _ {t : LinkedRows} {a b : ℕ} (pair : Comparable t a b) where
  abbrev tree : ℕ → Tree
  tree = linked t.rows.now

  -- row e is the argument of row a
  module _ (h : is_unary Conjugate (tree a) ≡ true) {e : ℕ} (is : e ≡ end_at t.rows.now a) where
    argument_row : Argument t.rows.now a e
    argument_row = row_argument (row_of t pair.first) Conjugate h is

    pub conjugate_comparable : Comparable t e b
    conjugate_comparable =
        let later = argument_row in
        record { first = (omega (arith, pair.first.0, later.after), later.row.inside); second = pair.second }

    pub conjugate_told : {z : Bool} → z ≡ same (tree e) (tree b) → z ≡ conjugates (tree a) (tree b)
    conjugate_told q = rw h (q ∙ ap (λ (x : Tree). same x (tree b)) argument_row.tree)

    -- other mixes: no conjugate
    pub conjugate_apart : eqb (mix (tree e)) (mix (tree b)) ≡ false → false ≡ conjugates (tree a) (tree b)
    conjugate_apart other = conjugate_told (other_mixes_differ (tree e) (tree b) other)

-- ---- the rules until none fits

from_less : {rows : List ℕ} (lo : ℕ) {hi j : ℕ} → lo ≤ hi → From rows hi j → From rows lo j
from_less lo h f = record { from = omega (arith, f.from); row = f.row }

within_less : (rows : List ℕ) (lo hi : ℕ) → lo ≤ hi → (m : Made) → Within rows hi m → Within rows lo m
within_less rows lo hi h (M.Node c x y) w = (w.0, from_less lo h w.1, from_less lo h w.2)
within_less rows lo hi h (M.Neg j) w = from_less lo h w
within_less rows lo hi h (M.Alone j) w = from_less lo h w
within_less rows lo hi h (M.Abs2 j) w = from_less lo h w

-- m is what the first rule makes
module _ (values : List ℕ) (c : BinaryCode) {t : LinkedRows} {l r : ℕ} (pair : Comparable t l r) {m : Option Move}
    (moved : Moved t.rows.now l r (code_rules (units_of values) c (linked t.rows.now l) (linked t.rows.now r)) m) where
  abbrev tidied : ℕ → Tree
  tidied = linked t.rows.now

  told : (k : Option Move) → m ≡ k →
      followed (joined (units_of values)) (Binary c) (tidied l) (tidied r) (outcome_of tidied k)
      ≡ joined (units_of values) (Binary c) (tidied l) (tidied r)
  unfolding first_rule
  told k e = rw (← e, moved.outcome) (sym (joined_step (units_of values) (Binary c) (tidied l) (tidied r)))

  onward : (k : Option Move) → m ≡ k → Onward t.rows.now l r k
  onward k e = rw e at moved.onward

  pub settled_stays : m ≡ None → binary_number c < 256 → Settled values t.rows.now c l r (M.Node c l r)
  settled_stays e f = record { tree = told None e; within = (f, from_left pair, from_right pair) }

  pub settled_ends : {z : Made} → m ≡ Some (Ends z) → Settled values t.rows.now c l r z
  settled_ends {z} e = record { tree = told (Some (Ends z)) e; within = onward (Some (Ends z)) e }

  module _ {d : BinaryCode} {x y : ℕ} (e : m ≡ Some (Again d x y)) where
    pub settled_again : {z : Made} → Settled values t.rows.now d x y z → Settled values t.rows.now c l r z
    settled_again {z} settled =
        let o = onward (Some (Again d x y)) e in
        record {
          tree = settled.tree ∙ told (Some (Again d x y)) e;
          within = within_less t.rows.now (min l r) (min x y) (omega (arith, o.1.from, o.2.from)) z settled.within;
        }
