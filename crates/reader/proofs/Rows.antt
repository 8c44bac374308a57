-- The words and rows that reading stores: the nodes of the statements' trees, and each statement by its row.
use Prim.Native.Nat.{ℕ, zero, suc, ◌+◌, ◌<◌, ◌≤◌}
use native.Mathlib.Omega.{arith}
use mathlib.Core.List.{List, [], ◌∷◌, ◌++◌, map}
use mathlib.Core.Path.{◌≡◌, refl, ap, ap₂, ◌∙◌}
use lib.ListN.{length, get_or}
use lib.Seq.{sets}
use Rattle.std.specs.Prelude.{unwrap_or}
use Rattle.definitions.specs.Tree.{weight}
use Rattle.definitions.specs.Statement.{Statement, assign, call, source}
use Rattle.definitions.proofs.Reading.{SheetStatements}
use Rattle.node.specs.Nodes.{tree, layout, layout_all, roots}
use Rattle.words.proofs.StoreRuns.{get_d_sets}
use Rattle.statement.specs.declared.Row.{Row}
use Rattle.statement.specs.declared.Row.TheVariants.{Given}
use Rattle.statement.specs.Rows.{empty, row_at, place_of, root_of, place_at, root_at, sheet_from}
use Rattle.statement.specs.Laid.{statement_words, statement_rows}

pub cons_head : {A : Type 0} {x y : A} {xs ys : List A} → x ∷ xs ≡ y ∷ ys → x ≡ y
cons_head e = cc

pub cons_tail : {A : Type 0} {x y : A} {xs ys : List A} → x ∷ xs ≡ y ∷ ys → xs ≡ ys
cons_tail e = cc

-- the rows have these from row j on
abbrev pub HasRows : (rows : List Row) (j : ℕ) (rs : List Row) → Type 0
HasRows rows j rs = (k : ℕ) → k < length rs → row_at rows (j + k) ≡ get_or rs k empty

pub sets_have_rows : (rs rows : List Row) (j : ℕ) → j + length rs ≤ length rows → HasRows (sets rows j rs) j rs
sets_have_rows rs rows j l k h = get_d_sets rs rows j k empty l h

module _ (rows : List Row) (j : ℕ) (r : Row) (rs : List Row) (has : HasRows rows j (r ∷ rs)) where
  row_here : row_at rows j ≡ r
  row_here = let z : j + 0 ≡ j = omega arith in rw z at (has 0 (omega arith))

  rows_after : HasRows rows (j + 1) rs
  rows_after k l = let z : j + 1 + k ≡ j + suc k = omega arith in rw z (has (suc k) (omega arith))

module _ (first : ℕ) where
  pub words_are : (n : ℕ) (ss : List Statement) → SheetStatements first ss → statement_words n ss ≡ layout_all n (map source ss)
  unfolding SheetStatements statement_words layout_all
  words_are n [] h = refl
  words_are n (assign p t ∷ ss) h = ap (λ (l : List ℕ). layout n t ++ l) (words_are (n + weight t) ss h.1)
  words_are n (call p c ∷ ss) h = absurd h.0

  pub rows_length_lem : (n : ℕ) (ss : List Statement) → SheetStatements first ss → length (statement_rows n ss) ≡ length ss
  unfolding SheetStatements statement_rows
  rows_length_lem n [] h = refl
  rows_length_lem n (assign p t ∷ ss) h = ap suc (rows_length_lem (n + weight t) ss h.1)
  rows_length_lem n (call p c ∷ ss) h = absurd h.0

  module _ (rows : List Row) where
    -- a row's root is its tree's
    pub root_is : (j n : ℕ) (ss : List Statement) → SheetStatements first ss → HasRows rows j (statement_rows n ss)
        → (k : ℕ) → k < length ss → root_at rows (j + k) ≡ get_or (roots n (map source ss)) k 0
    unfolding SheetStatements statement_rows roots
    root_is j n [] h has k l = absurd (omega arith)
    root_is j n (assign p t ∷ ss) h has zero l =
        let z : j + 0 ≡ j = omega arith in rw z (ap (λ (r : Row). unwrap_or (root_of r) 0) (row_here rows j _ _ has))
    root_is j n (assign p t ∷ ss) h has (suc k) l =
        let z : j + suc k ≡ j + 1 + k = omega arith in
        rw z (root_is (j + 1) (n + weight t) ss h.1 (rows_after rows j _ _ has) k (omega arith))
    root_is j n (call p c ∷ ss) h has k l = absurd h.0

    -- a row is a statement's
    pub given_is : (j n : ℕ) (ss : List Statement) → SheetStatements first ss → HasRows rows j (statement_rows n ss)
        → (k : ℕ) → k < length ss → row_at rows (j + k) ≡ Given (place_at rows (j + k)) (root_at rows (j + k))
    unfolding SheetStatements statement_rows
    given_is j n [] h has k l = absurd (omega arith)
    given_is j n (assign p t ∷ ss) h has zero l =
        let z : j + 0 ≡ j = omega arith in rw (z, row_here rows j _ _ has) refl
    given_is j n (assign p t ∷ ss) h has (suc k) l =
        let z : j + suc k ≡ j + 1 + k = omega arith in
        rw z (given_is (j + 1) (n + weight t) ss h.1 (rows_after rows j _ _ has) k (omega arith))
    given_is j n (call p c ∷ ss) h has k l = absurd h.0

    -- over the nodes of the trees the rows are the statements
    pub rows_stand : (ws : List ℕ) (j n : ℕ) (ss : List Statement) → SheetStatements first ss
        → HasRows rows j (statement_rows n ss) → map (tree ws) (roots n (map source ss)) ≡ map source ss
        → sheet_from ws rows j (length ss) ≡ ss
    unfolding SheetStatements statement_rows roots sheet_from
    rows_stand ws j n [] h has e = refl
    rows_stand ws j n (assign p t ∷ ss) h has e =
        let here = row_here rows j _ _ has in
        let place : place_at rows j ≡ p = ap place_of here in
        let root : tree ws (root_at rows j) ≡ t = ap (λ (r : Row). tree ws (unwrap_or (root_of r) 0)) here ∙ cons_head e in
        ap₂ ◌∷◌ (ap₂ assign place root) (rows_stand ws (j + 1) (n + weight t) ss h.1 (rows_after rows j _ _ has) (cons_tail e))
    rows_stand ws j n (call p c ∷ ss) h has e = absurd h.0
