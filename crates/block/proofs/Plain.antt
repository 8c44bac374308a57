-- With sharing off the sheet's own rows are fit for trimming: no tree has a text, so nothing is rewritten. Assumes nothing.
use mathlib.Core.Path.{◌≡◌, refl, sym, ap, ap₂, ◌∙◌}
use mathlib.Core.Bool.{false}
use mathlib.Core.List.{List, [], ◌∷◌}
use mathlib.Core.Logic.{◌≢◌}
use Prim.Native.Nat.{ℕ, zero, suc, ◌+◌, ◌<◌, ◌≤◌}
use native.Mathlib.Omega.{arith}
use lib.ListN.{get_or}
use Rattle.symbol.specs.declared.Loc.{Loc}
use Rattle.definitions.specs.Tree.{Tree, constant, variable, one, two, depth}
use Rattle.definitions.specs.Statement.{Statement, assign, call}
use Rattle.definitions.specs.Eliminate.{kept, find, rewrite, eliminate, texts_of}
use Rattle.node.specs.declared.Node.{Node}
use Rattle.node.specs.declared.Node.TheVariants.{Const, Var, Unary, Binary}
use Rattle.node.specs.Nodes.{node_at, node_tree, tree_from, tree}
use Rattle.node.specs.Views.{masked, seen_at, seen}
use Rattle.statement.specs.declared.Row.{Row}
use Rattle.statement.specs.declared.Row.TheVariants.{Given}
use Rattle.statement.specs.Rows.{row_at, place_at, root_at, rows_from, row_statement, statements_of, sheet_from}
use Rattle.statement.specs.Rowing.{OnRoot, OnGiven, Unmade, NumberedBelow, spend, spent}
use Rattle.statement.specs.Handover.{SheetHeld, Unmarked, Owned, SheetEliminated}
use Rattle.statement.proofs.NodesUnmarked.{zeros_most}
use Rattle.block.specs.Sharing.{Eliminated}

-- ---- the definition without texts

module _ (temporary : ℕ → Loc) where
  rewrite_none : (d : ℕ) (st : List ℕ) (t : Tree) → rewrite [] temporary d st t ≡ kept st t
  unfolding rewrite find
  rewrite_none zero st t = refl
  rewrite_none (suc d) st (constant i) = refl
  rewrite_none (suc d) st (variable p) = refl
  rewrite_none (suc d) st (one o a) = rw (rewrite_none d st a) refl
  rewrite_none (suc d) st (two o l r) = rw (rewrite_none d st l, rewrite_none d st r) refl

  eliminate_none : (st : List ℕ) (ss : List Statement) → eliminate [] temporary st ss ≡ ss
  unfolding eliminate
  eliminate_none st [] = refl
  eliminate_none st (assign p t ∷ ss) =
      rw (rewrite_none (depth t) st t) (ap (λ (l : List Statement). assign p t ∷ l) (eliminate_none st ss))
  eliminate_none st (call p c ∷ ss) = ap (λ (l : List Statement). call p c ∷ l) (eliminate_none st ss)

-- ---- nodes without marks

module _ (temporary : ℕ → Loc) (ws ms : List ℕ) (blank : (i : ℕ) → get_or ms i 0 ≡ 0) where
  unmarked_node : (f g : ℕ → Tree) → ((j : ℕ) → f j ≡ g j) → (i : ℕ) (x : Node) →
      node_tree (λ j. masked temporary (get_or ms j 0) (f j)) i x ≡ node_tree g i x
  unmarked_node f g e i (Const k) = refl
  unmarked_node f g e i (Var p) = refl
  unmarked_node f g e i (Unary o) = rw (blank (i + 1)) (ap (one o) (e (i + 1)))
  unmarked_node f g e i (Binary o r) = rw (blank (i + 1), blank r) (ap₂ (two o) (e (i + 1)) (e r))

  unmarked_from : (d i : ℕ) → seen_at temporary ws ms d i ≡ tree_from d ws i
  unfolding seen_at tree_from
  unmarked_from zero i = refl
  unmarked_from (suc d) i = unmarked_node (seen_at temporary ws ms d) (tree_from d ws) (unmarked_from d) i (node_at ws i)

  seen_unmarked : (i : ℕ) → seen temporary ws ms i ≡ tree ws i
  unfolding seen tree
  seen_unmarked i = unmarked_from _ i

-- ---- the sheet's own rows

module _ {ws ms : List ℕ} {rows : List Row} {n count : ℕ} (held : SheetHeld ws rows n count) (unmarked : Unmarked ms) where
  -- what holds of a statement's row holds of each
  own_row : (P : Row → Type 0) (j : ℕ) → j < count → P (Given (place_at rows j) (root_at rows j)) → P (row_at rows j)
  own_row P j l h = rw (held.given j l) h

  rows_spend_one : (k m : ℕ) → k + m ≤ count → spent (rows_from rows k m) ≡ m
  unfolding spent rows_from
  rows_spend_one k zero l = refl
  rows_spend_one k (suc m) l =
      let first : spend (row_at rows k) ≡ 1 = own_row (λ r. spend r ≡ 1) k (omega arith) refl in
      omega (arith, first, rows_spend_one (k + 1) m (omega arith))

  rows_say_lem : (temporary : ℕ → Loc) (k m : ℕ) → k + m ≤ count →
      statements_of temporary ws ms (rows_from rows k m) ≡ sheet_from ws rows k m
  unfolding statements_of rows_from sheet_from
  rows_say_lem temporary k zero l = refl
  rows_say_lem temporary k (suc m) l =
      ap₂ (λ (s : Statement) (ss : List Statement). s ∷ ss)
      (ap (row_statement temporary ws ms) (held.given k (omega arith))
      ∙ ap (assign (place_at rows k)) (seen_unmarked temporary ws ms unmarked.blank (root_at rows k)))
      (rows_say_lem temporary (k + 1) m (omega arith))

  own_handed : SheetEliminated ws ms rows n (record { next = 0; count = count })
  own_handed =
      record {
        table = held.table;
        wide = unmarked.wide;
        long = held.long;
        low = omega arith;
        small = λ j. omega (arith, unmarked.blank j);
        unmade = λ j l. own_row Unmade j l tt;
        named = λ j l. own_row (NumberedBelow 0) j l tt;
        placed = λ j l. own_row (OnRoot (λ i. i < n)) j l (held.roots j l);
        owned = λ j l. own_row (OnRoot (Owned ws ms)) j l (λ z a b. absurd (omega (arith, held.closed j l z a)));
        unmarked = λ j l. own_row (OnGiven (λ i. get_or ms i 0 ≡ 0)) j l (unmarked.blank (root_at rows j));
        distinct = λ j k a b.
            own_row (OnRoot (λ x. OnRoot (λ y. x ≢ y) (row_at rows k))) j (omega arith)
            (own_row (OnRoot (λ y. root_at rows j ≢ y)) k b (λ e. omega (arith, held.order j k a b)));
      }

  pub plain_rows : Eliminated false ws rows n count ms rows (record { next = 0; count = count })
  unfolding texts_of
  plain_rows =
      record {
        given = refl;
        handed = own_handed;
        room = omega (arith, rows_spend_one 0 count (omega arith), zeros_most ms n);
        statements = λ temporary.
            rows_say_lem temporary 0 count (omega arith) ∙ sym (eliminate_none temporary [] (sheet_from ws rows 0 count));
      }
