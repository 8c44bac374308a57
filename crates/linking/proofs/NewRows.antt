-- New rows: the unary of a row, 1 times a row, what the rules made, and a node that no rule fits. Assumes nothing.
use mathlib.Core.Path.{◌≡◌, refl, sym, ap, ◌∙◌}
use mathlib.Core.Bool.{true, false, false≢true}
use mathlib.Core.List.{List}
use Prim.Native.Nat.{ℕ, ◌<◌, min}
use native.Mathlib.Omega.{arith}
use Rattle.operation.specs.Numbers.{unary_number}
use Rattle.operation.specs.declared.One.TheVariants.{Unary}
use Rattle.operation.specs.declared.Two.TheVariants.{Binary, Choice, PowerMod, Function2}
use Rattle.operation.specs.declared.UnaryCode.{UnaryCode}
use Rattle.operation.specs.declared.UnaryCode.TheVariants.{Neg, Abs2, Real}
use Rattle.operation.specs.declared.BinaryCode.{BinaryCode}
use Rattle.definitions.specs.Tree.{Tree, one, two}
use Rattle.tidying.specs.Units.{units_of}
use Rattle.tidying.specs.Tidy.{Units, alone, stays, code_rules, first_rule, joined}
use Rattle.tidying.proofs.Rules.{joined_step}
use Rattle.node.specs.declared.Node.{Node}
use Rattle.node.specs.declared.Node.TheVariants.{Const, Var, Unary as UnaryNode, Binary as BinaryNode}
use Rattle.node.specs.Nodes.{node_at, end_at}
use Rattle.node.specs.Sides.{Sides, tree_over}
use Rattle.node.specs.Sized.{SizedNode}
use Rattle.node.proofs.Sides.{sides_more}
use Rattle.node.proofs.Heads.{node_sized}
use Rattle.links.specs.declared.LinkedRows.{LinkedRows}
use Rattle.links.specs.Links.{linked, Inside}
use Rattle.links.specs.LinkedFrom.{Has}
use Rattle.links.proofs.Links.{row_rises}
use Rattle.links.proofs.LinkedFrom.{row_of, tree_of}
use Rattle.alike.specs.Alike.{Comparable}
use Rattle.rules.specs.declared.Rules.{Rules}
use Rattle.rules.specs.declared.Made.{Made}
use Rattle.rules.specs.declared.Made.TheVariants as M
use Rattle.rules.specs.Moves.{From, made_tree, Within, Settled}
use Rattle.linking.specs.declared.NewRow.{NewRow}
use Rattle.linking.specs.NewRows.{Makes, joined_node, Joins}

-- ---- over one row

-- what is no constant stands alone
alone_itself : (f : ℕ → Tree) (left : ℕ) (m : Node) → ((k : ℕ) → m ≡ Const k → ⊥) → alone (tree_over f left m) ≡ tree_over f left m
alone_itself f left (Const k) other = absurd (other k refl)
alone_itself f left (Var p) other = refl
alone_itself f left (UnaryNode o) other = refl
alone_itself f left (BinaryNode o right) other = refl

module _ (t : LinkedRows) {j : ℕ} (has : Has t j) where
  -- the unary of a code
  pub unary_made : (c : UnaryCode) {row : NewRow} → unary_number c < 256 → row.node ≡ UnaryNode (Unary c) → row.left ≡ j
      → Makes t row (one (Unary c) (linked t.rows.now j))
  unfolding Sides
  unary_made c byte node left = record { sized = rw node byte; sides = rw (node, left) has; tree = rw (node, left) refl }

  -- it was unpacked as x, with the left side l
  module _ {x : Node} {l : ℕ} (unpacked : x ≡ node_at t.rows.now j) (left : l ≡ end_at t.rows.now j) where
    tree_told : linked t.rows.now j ≡ tree_over (linked t.rows.now) l x
    tree_told = rw (left, unpacked) (tree_of t has)

    sides_told : Sides (Has t) l x
    sides_told =
        rw (left, unpacked)
        (sides_more (λ k. (j < k) × Inside t.rows.now k) (Has t) (λ k side. (omega (arith, has.0, side.0), side.1))
        (end_at t.rows.now j) (node_at t.rows.now j) (row_rises (row_of t has)))

    pub constant_alone : {k : ℕ} {row : NewRow} → x ≡ Const k → Makes t row (one (Unary Real) (linked t.rows.now j))
        → Makes t row (alone (linked t.rows.now j))
    constant_alone e made =
        let constant-is = rw e at tree_told in
        rw (ap (one (Unary Real)) constant-is ∙ sym (ap alone constant-is)) at made

    pub other_alone : ((k : ℕ) → x ≡ Const k → ⊥) → Makes t (record { node = x; left = l }) (alone (linked t.rows.now j))
    other_alone other =
        let itself = alone_itself (linked t.rows.now) l x other in
        record { sized = node_sized t.rows.now j unpacked; sides = sides_told; tree = sym (ap alone tree_told ∙ itself) }

-- ---- what the rules made

module _ (r : Rules) {code : BinaryCode} {x y : ℕ} (pair : Comparable r.links x y) {m : Made}
    (settled : Settled r.values.now r.links.rows.now code x y m) where
  abbrev whole : Tree
  whole = joined (units_of r.values.now) (Binary code) (linked r.links.rows.now x) (linked r.links.rows.now y)

  within : (z : Made) → m ≡ z → Within r.links.rows.now (min x y) z
  within z told = rw told at settled.within

  made_whole : (z : Made) → m ≡ z → made_tree (linked r.links.rows.now) z ≡ whole
  made_whole z told = rw told at settled.tree

  has_from : {j : ℕ} → From r.links.rows.now (min x y) j → Has r.links j
  has_from from = (omega (arith, pair.first.0, pair.second.0, from.from), from.row.inside)

  pub node_joined : {c : BinaryCode} {a b : ℕ} → m ≡ M.Node c a b
      → Makes r.links (record { node = BinaryNode (Binary c) b; left = a }) whole
  unfolding Sides
  node_joined {c} {a} {b} told =
      let both = within (M.Node c a b) told in
      record { sized = both.0; sides = (has_from both.1, has_from both.2); tree = made_whole (M.Node c a b) told }

  module _ {j : ℕ} {row : NewRow} where
    pub neg_joined : m ≡ M.Neg j → row.node ≡ UnaryNode (Unary Neg) → row.left ≡ j → Makes r.links row whole
    unfolding unary_number
    neg_joined told node left =
        rw (← made_whole (M.Neg j) told) (unary_made r.links (has_from (within (M.Neg j) told)) Neg (omega arith) node left)

    pub abs_joined : m ≡ M.Abs2 j → row.node ≡ UnaryNode (Unary Abs2) → row.left ≡ j → Makes r.links row whole
    unfolding unary_number
    abs_joined told node left =
        rw (← made_whole (M.Abs2 j) told) (unary_made r.links (has_from (within (M.Abs2 j) told)) Abs2 (omega arith) node left)

    pub alone_joined : m ≡ M.Alone j → Makes r.links row (alone (linked r.links.rows.now j)) → Makes r.links row whole
    alone_joined told made = rw (← made_whole (M.Alone j) told) made

  pub alone_has : {j : ℕ} → m ≡ M.Alone j → Has r.links j
  alone_has {j} told = has_from (within (M.Alone j) told)

-- ---- a node

-- no rule fits a node over the trees of its sides
abbrev pub Unruled : Units → (tree : ℕ → Tree) → (left : ℕ) → Node → Type 0
Unruled u tree left (Const k) = Unit {0}
Unruled u tree left (Var p) = Unit {0}
Unruled u tree left (UnaryNode o) = Unit {0}
Unruled u tree left (BinaryNode o right) = first_rule u o (tree left) (tree right) ≡ stays

-- only binaries have rules
other_unruled : (u : Units) (tree : ℕ → Tree) (left : ℕ) (m : Node)
    → ((c : BinaryCode) (right : ℕ) → m ≡ BinaryNode (Binary c) right → ⊥) → Unruled u tree left m
unfolding first_rule
other_unruled u tree left (Const k) other = tt
other_unruled u tree left (Var p) other = tt
other_unruled u tree left (UnaryNode o) other = tt
other_unruled u tree left (BinaryNode (Binary c) right) other = absurd (other c right refl)
other_unruled u tree left (BinaryNode (Choice p) right) other = refl
other_unruled u tree left (BinaryNode (PowerMod w) right) other = refl
other_unruled u tree left (BinaryNode (Function2 f) right) other = refl

unruled_tree : (u : Units) (tree : ℕ → Tree) (left : ℕ) (m : Node) → Unruled u tree left m
    → tree_over tree left m ≡ joined_node u tree left m
unruled_tree u tree left (Const k) stay = refl
unruled_tree u tree left (Var p) stay = refl
unruled_tree u tree left (UnaryNode o) stay = refl
unruled_tree u tree left (BinaryNode o right) stay =
    let stands : joined u o (tree left) (tree right) ≡ two o (tree left) (tree right) =
    rw stay at (joined_step u o (tree left) (tree right)) in
    sym stands

module _ (t : LinkedRows) (values : List ℕ) (x : Node) (left : ℕ) (sides : Sides (Has t) left x) where
  abbrev u : Units
  u = units_of values

  abbrev tree : ℕ → Tree
  tree = linked t.rows.now

  -- a binary, whose sides the rules see
  module _ {code : BinaryCode} {right : ℕ} (told : x ≡ BinaryNode (Binary code) right) where
    pub binary_sides : Comparable t left right
    unfolding Sides
    binary_sides = let both = rw told at sides in record { first = both.0; second = both.1 }

    pub binary_joins : {row : NewRow} → Makes t row (joined u (Binary code) (tree left) (tree right))
        → Joins t values x left (row, true)
    binary_joins made = record { makes = rw told made; kept = λ e. absurd (false≢true (sym e)) }

    pub binary_unruled : code_rules u code (tree left) (tree right) ≡ stays → Unruled u tree left x
    unfolding first_rule
    binary_unruled stay = rw told stay

  pub other_node : ((c : BinaryCode) (right : ℕ) → x ≡ BinaryNode (Binary c) right → ⊥) → Unruled u tree left x
  other_node other = other_unruled u tree left x other

  pub node_joins : SizedNode x → Unruled u tree left x → Joins t values x left (record { node = x; left = left }, false)
  node_joins sized stay =
      record {
        makes = record { sized = sized; sides = sides; tree = unruled_tree u tree left x stay };
        kept = λ _. (refl, refl);
      }
