-- Trees laid one after another: their roots grow, each closes what stands before it, and the trees read the nodes' variables.
use Prim.Native.Nat.{ℕ, zero, suc, ◌+◌, ◌<◌, ◌≤◌}
use native.Mathlib.Omega.{arith}
use mathlib.Core.List.{List, [], ◌∷◌, map}
use mathlib.Core.Path.{◌≡◌, refl, ap, sym, ◌∙◌}
use lib.ListN.{length, get_or}
use Rattle.limits.specs.Limits.{depth_limit}
use Rattle.symbol.specs.declared.Loc.{Loc}
use Rattle.definitions.specs.Tree.{Tree, weight}
use Rattle.definitions.specs.Statement.{Statement, assign, call, source}
use Rattle.definitions.proofs.Memory.{Reads}
use Rattle.definitions.proofs.Reading.{SheetPlace, SheetStatements}
use Rattle.node.specs.declared.Node.{Node}
use Rattle.node.specs.declared.Node.TheVariants.{Const, Var, Unary as UnaryNode, Binary as BinaryNode}
use Rattle.node.specs.Nodes.{node_at, end_at, node_tree, tree_from, Lies, Laid, tree, Table, roots, weights}
use Rattle.node.proofs.Nodes.{below_or, equal_or, nested, end_weight}
use Rattle.node.proofs.Laying.{weight_positive}
use Rattle.statement.specs.Handover.{Closed}
use Rattle.reader.proofs.Rows.{cons_head, cons_tail}

root_from : (n : ℕ) (ts : List Tree) (k : ℕ) → k < length ts → n ≤ get_or (roots n ts) k 0
unfolding roots
root_from n [] k l = absurd (omega arith)
root_from n (t ∷ ts) zero l = omega arith
root_from n (t ∷ ts) (suc k) l = omega (arith, root_from (n + weight t) ts k (omega arith))

pub roots_grow : (n : ℕ) (ts : List Tree) (i k : ℕ) → i < k → k < length ts → get_or (roots n ts) i 0 < get_or (roots n ts) k 0
unfolding roots
roots_grow n [] i k a b = absurd (omega arith)
roots_grow n (t ∷ ts) i zero a b = absurd (omega arith)
roots_grow n (t ∷ ts) zero (suc k) a b = omega (arith, root_from (n + weight t) ts k (omega arith), weight_positive t)
roots_grow n (t ∷ ts) (suc i) (suc k) a b = roots_grow (n + weight t) ts i k (omega arith) (omega arith)

module _ (ws : List ℕ) (hi : ℕ) (table : Table ws hi) where
  -- the first of the trees ends where the next begins
  root_ends : (n : ℕ) (t : Tree) (ts : List Tree) → map (tree ws) (roots n (t ∷ ts)) ≡ t ∷ ts → n + weights (t ∷ ts) ≤ hi
      → end_at ws n ≡ n + weight t
  unfolding roots weights
  root_ends n t ts e l =
      end_weight ws n (table.laid n (omega (arith, weight_positive t))) ∙ ap (λ (u : Tree). n + weight u) (cons_head e)

  pub roots_close : (n : ℕ) (ts : List Tree) → map (tree ws) (roots n ts) ≡ ts → n + weights ts ≤ hi → Closed ws n
      → (k : ℕ) → k < length ts → Closed ws (get_or (roots n ts) k 0)
  unfolding roots weights
  roots_close n [] e l c k b = absurd (omega arith)
  roots_close n (t ∷ ts) e l c zero b = c
  roots_close n (t ∷ ts) e l c (suc k) b =
      let laid = table.laid n (omega (arith, weight_positive t)) in
      let ends = root_ends n t ts e l in
      let next : Closed ws (n + weight t) =
      λ z m. below_or z n (λ b. omega (arith, c z b))
      (λ a. omega (arith, ends, nested ws depth_limit n z laid a (omega (arith, ends)))) in
      roots_close (n + weight t) ts (cons_tail e) (omega arith) next k (omega arith)

-- the variables among the nodes of a tree are read by it
module _ (P : Loc → Type 0) (ws : List ℕ) where
  abbrev Variables : (lo hi : ℕ) → Type 0
  Variables lo hi = (i : ℕ) (p : Loc) → lo ≤ i → i < hi → node_at ws i ≡ Var p → P p

  node_variables : (d r : ℕ) → ((j : ℕ) → Laid d ws j → Reads P (tree_from d ws j) → Variables j (end_at ws j)) → (m : Node)
      → node_at ws r ≡ m → Lies (Laid d ws) ws r m → Reads P (node_tree (tree_from d ws) r m) → Variables r (end_at ws r)
  unfolding Reads
  node_variables d r ih (Const k) e l h i p a b v = absurd (let z : i ≡ r = omega (arith, l) in other (sym e ∙ rw z at v))
    where
      other : Const k ≡ Var p → ⊥
      other w = let u : ◌≡◌ {A = ℕ} 0 1 = cc in omega arith
  node_variables d r ih (Var q) e l h i p a b v =
      let z : i ≡ r = omega (arith, l) in
      let w : Var q ≡ Var p = sym e ∙ rw z at v in
      let u : q ≡ p = cc in
      rw u at h
  node_variables d r ih (UnaryNode o) e l h i p a b v =
      equal_or i r (λ z. absurd (other (sym e ∙ rw z at v))) (λ z. ih (r + 1) l.0 h i p (omega (arith, z)) (omega (arith, l.1)) v)
    where
      other : UnaryNode o ≡ Var p → ⊥
      other w = let u : ◌≡◌ {A = ℕ} 0 1 = cc in omega arith
  node_variables d r ih (BinaryNode o right) e l h i p a b v =
      equal_or i r (λ z. absurd (other (sym e ∙ rw z at v)))
      (λ z. below_or i right
      (λ y. ih (r + 1) l.0 h.1 i p (omega (arith, z)) (omega (arith, l.2)) v)
      (λ y. ih right l.1 h.2 i p y (omega (arith, l.3)) v))
    where
      other : BinaryNode o right ≡ Var p → ⊥
      other w = let u : ◌≡◌ {A = ℕ} 0 1 = cc in omega arith

  tree_variables : (d r : ℕ) → Laid d ws r → Reads P (tree_from d ws r) → Variables r (end_at ws r)
  unfolding Laid tree_from
  tree_variables zero r l h i p a b v = absurd l
  tree_variables (suc d) r l h i p a b v = node_variables d r (tree_variables d) (node_at ws r) refl l.1 h i p a b v

-- those of a sheet's statements are places of the sheet
pub sheet_variables : (first : ℕ) (ws : List ℕ) (hi : ℕ) → Table ws hi → (n : ℕ) (ss : List Statement)
    → SheetStatements first ss → map (tree ws) (roots n (map source ss)) ≡ map source ss → n + weights (map source ss) ≤ hi
    → Variables (SheetPlace first) ws n (n + weights (map source ss))
unfolding SheetStatements roots weights tree
sheet_variables first ws hi table n [] h e l i p a b v = absurd (omega arith)
sheet_variables first ws hi table n (assign q t ∷ ss) h e l i p a b v =
    let laid = table.laid n (omega (arith, weight_positive t)) in
    let ends = root_ends ws hi table n t (map source ss) e l in
    below_or i (n + weight t)
    (λ c. tree_variables (SheetPlace first) ws depth_limit n laid (rw (cons_head e) h.0.1) i p a (omega (arith, ends)) v)
    (λ c. sheet_variables first ws hi table (n + weight t) ss h.1 (cons_tail e) (omega arith) i p c (omega arith) v)
sheet_variables first ws hi table n (call q c ∷ ss) h e l i p a b v = absurd h.0
