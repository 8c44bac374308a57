-- A sheet laid anew has the nodes and rows of its statements tidied. Assumes nothing.
use mathlib.Core.Path.{◌≡◌, refl, sym, ap, ap₂, ◌∙◌}
use mathlib.Core.List.{List, ◌∷◌, map}
use Prim.Native.Nat.{ℕ, zero, suc, ◌+◌, ◌<◌}
use native.Mathlib.Omega.{arith}
use native.Mathlib.Nat.{zero-add}
use lib.ListN.{length, get_or}
use lib.Seq.{sets}
use Rattle.definitions.specs.Tree.{Tree, weight}
use Rattle.definitions.specs.Statement.{Statement, assign, source}
use Rattle.tidying.specs.Units.{units_of}
use Rattle.tidying.specs.Tidy.{Units, tidy, tidied_all, nodes_of}
use Rattle.node.specs.Nodes.{tree, layout_all, roots, weights}
use Rattle.tidying.proofs.Sizing.{nodes_are}
use Rattle.statement.specs.declared.Row.{Row}
use Rattle.statement.specs.declared.Row.TheVariants.{Given}
use Rattle.statement.specs.Rows.{row_at, place_at, root_at, sheet_from}
use Rattle.statement.specs.Laid.{statement_rows}
use Rattle.tidy.specs.Relaying.{root_trees, tidy_trees, Relaid, Neat}

-- these rows stand among the rows, from row j on
abbrev pub HasRows : (rows : List Row) (j : ℕ) (rs : List Row) → Type 0
HasRows rows j rs = (k : ℕ) → k < length rs → row_at rows (j + k) ≡ row_at rs k

-- the nodes and rows of the tidied statements stand in the words and rows
pub record TidiedStand (values : List ℕ) (ss : List Statement) (ws ws' : List ℕ) (rows' : List Row) (m : ℕ) : Type 0 where
  pub words : ws' ≡ sets ws 0 (layout_all 0 (map source (tidied_all (units_of values) ss)))
  pub rows : HasRows rows' 0 (statement_rows 0 (tidied_all (units_of values) ss))
  pub nodes : m ≡ nodes_of (tidied_all (units_of values) ss)

module _ (u : Units) (ws : List ℕ) (rows : List Row) where
  -- the statements from row j on, as they stand, and tidied
  abbrev stated : (j count : ℕ) → List Statement
  stated j count = sheet_from ws rows j count

  abbrev tidy_stated : (j count : ℕ) → List Statement
  tidy_stated j count = tidied_all u (stated j count)

  tidied_trees : (j count : ℕ) → root_trees (λ i. tidy u (tree ws i)) rows j count ≡ map source (tidy_stated j count)
  unfolding root_trees sheet_from tidied_all
  tidied_trees j zero = refl
  tidied_trees j (suc count) = ap (λ (ts : List Tree). tidy u (tree ws (root_at rows j)) ∷ ts) (tidied_trees (j + 1) count)

  -- rows of the same places, with the roots of the tidied trees
  module _ (rows' : List Row) where
    tidied_rows : (j m count : ℕ)
        → ((k : ℕ) → k < count
        → row_at rows' (j + k) ≡ Given (place_at rows (j + k)) (get_or (roots m (map source (tidy_stated j count))) k 0))
        → HasRows rows' j (statement_rows m (tidy_stated j count))
    unfolding sheet_from tidied_all statement_rows roots
    tidied_rows j m zero given k l = absurd (omega arith)
    tidied_rows j m (suc count) given zero l =
        let z : j + 0 ≡ j = omega arith in
        given 0 (omega arith) ∙ rw z refl
    tidied_rows j m (suc count) given (suc k) l =
        let next : (i : ℕ) → j + 1 + i ≡ j + suc i = λ i. omega arith in
        let later =
        tidied_rows (j + 1) (m + weight (tidy u (tree ws (root_at rows j)))) count
        (λ i h. rw (next i) (given (suc i) (omega arith))) in
        rw (next k) at (later k (omega arith))

-- what stood in the words and rows stands there tidied
pub tidied_stands : (values ws : List ℕ) (rows : List Row) {ws' : List ℕ} {rows' : List Row} (count : ℕ) {m : ℕ}
    (ss : List Statement)
    → sheet_from ws rows 0 count ≡ ss
    → Relaid (tidy_trees values ws rows count) ws rows ws' rows' count m → TidiedStand values ss ws ws' rows' m
tidied_stands values ws rows {ws'} {rows'} count ss stands relaid =
    let u = units_of values in
    let trees = tidied_trees u ws rows 0 count in
    rw (← stands)
    record {
      words = relaid.words ∙ ap (λ (ts : List Tree). sets ws 0 (layout_all 0 ts)) trees;
      rows =
          tidied_rows u ws rows rows' 0 0 count
          (λ k l. rw (zero-add k)
          (relaid.given k l ∙ ap (λ (ts : List Tree). Given (place_at rows k) (get_or (roots 0 ts) k 0)) trees));
      nodes = relaid.nodes ∙ ap weights trees ∙ sym (nodes_are (tidy_stated u ws rows 0 count));
    }

-- where no rule fitted, tidied statements are those as read
pub neat_stands : {values ws : List ℕ} {rows : List Row} {ws' : List ℕ} {rows' : List Row} {count n m : ℕ} {ss : List Statement}
    → Neat values ws rows ws' rows' count n m → sheet_from ws rows 0 count ≡ ss → tidied_all (units_of values) ss ≡ ss
unfolding sheet_from tidied_all
neat_stands {values} {ws} {rows} {count = count} neat stands = rw (← stands) (kept 0 count (λ k l. neat.trees k (omega arith)))
  where
    kept : (j c : ℕ) → ((k : ℕ) → k < j + c → tidy (units_of values) (tree ws (root_at rows k)) ≡ tree ws (root_at rows k))
        → tidied_all (units_of values) (sheet_from ws rows j c) ≡ sheet_from ws rows j c
    kept j zero h = refl
    kept j (suc c) h =
        ap₂ ◌∷◌ (ap (assign (place_at rows j)) (h j (omega arith))) (kept (j + 1) c (λ k l. h k (omega arith)))
