-- The trees of a sheet's roots: how they grow by a statement, and how much they weigh. Assumes nothing.
use mathlib.Core.Path.{◌≡◌, refl, ap, ap₂, ◌∙◌}
use mathlib.Core.List.{List, [], ◌∷◌, ◌++◌}
use Prim.Native.Nat.{ℕ, zero, suc, ◌+◌, ◌-◌, ◌*◌, ◌<◌, ◌≤◌}
use native.Mathlib.Omega.{arith}
use lib.ListN.{length, get_or, get_or-append}
use lib.Seq.{get_or-append-add}
use Rattle.limits.specs.Limits.{node_limit}
use Rattle.definitions.specs.Tree.{Tree, weight}
use Rattle.tidying.specs.Units.{units_of}
use Rattle.tidying.specs.Tidy.{Units, tidy}
use Rattle.tidying.proofs.TidyKeeps.{tidy_weight}
use Rattle.node.specs.Nodes.{tree, end_at, roots, weights}
use Rattle.node.proofs.Nodes.{end_weight}
use Rattle.tidying.proofs.Forest.{roots_length, weights_append, roots_append}
use Rattle.statement.specs.declared.Row.{Row}
use Rattle.statement.specs.Rows.{root_at}
use Rattle.statement.specs.Handover.{SheetHeld}
use Rattle.links.specs.Links.{Inside, linked}
use Rattle.linking.specs.Rows.{Tidied}
use Rattle.tidy.specs.Relaying.{root_trees, tidy_trees, Linked, Relaid}

-- ---- a statement more

module _ (tree_of : ℕ → Tree) (rows : List Row) where
  -- the trees of the first k statements, and that of statement k
  abbrev pub first_trees : (k : ℕ) → List Tree
  first_trees k = root_trees tree_of rows 0 k

  abbrev own : (k : ℕ) → Tree
  own k = tree_of (root_at rows k)

  trees_length : (j count : ℕ) → length (root_trees tree_of rows j count) ≡ count
  unfolding root_trees
  trees_length j zero = refl
  trees_length j (suc count) = ap suc (trees_length (j + 1) count)

  grow_from : (j k : ℕ) → root_trees tree_of rows j (k + 1) ≡ root_trees tree_of rows j k ++ (own (j + k) ∷ [])
  unfolding root_trees
  grow_from j zero = let e : j + 0 ≡ j = omega arith in rw e
  grow_from j (suc k) =
      let e : j + 1 + k ≡ j + suc k = omega arith in
      let p : suc k + 1 ≡ suc (k + 1) = omega arith in
      rw p (ap (λ (ts : List Tree). own j ∷ ts) (rw e at (grow_from (j + 1) k)))

  -- its tree comes last
  pub trees_grow : (k : ℕ) → first_trees (k + 1) ≡ first_trees k ++ (own k ∷ [])
  trees_grow k = let e : 0 + k ≡ k = omega arith in rw e at (grow_from 0 k)

  pub weights_grow : (k : ℕ) → weights (first_trees (k + 1)) ≡ weights (first_trees k) + weight (own k)
  unfolding weights
  weights_grow k = ap weights (trees_grow k) ∙ weights_append (first_trees k) (own k ∷ []) ∙ omega arith

  weights_rise : (d k : ℕ) → weights (first_trees k) ≤ weights (first_trees (k + d))
  weights_rise zero k = let e : k + 0 ≡ k = omega arith in rw e (omega arith)
  weights_rise (suc d) k =
      let e : k + suc d ≡ k + d + 1 = omega arith in
      rw e (omega (arith, weights_rise d k, weights_grow (k + d)))

  -- a statement's tree and those before it weigh no more than all
  pub weights_within : (k count : ℕ) → k < count → weights (first_trees k) + weight (own k) ≤ weights (first_trees count)
  weights_within k count h =
      let e : k + 1 + (count - (k + 1)) ≡ count = omega arith in
      omega (arith, weights_grow k, rw e at (weights_rise (count - (k + 1)) (k + 1)))

  -- so its root is their weight, after their roots
  roots_more : (k : ℕ) → roots 0 (first_trees (k + 1)) ≡ roots 0 (first_trees k) ++ (weights (first_trees k) ∷ [])
  unfolding roots
  roots_more k =
      let z : 0 + weights (first_trees k) ≡ weights (first_trees k) = omega arith in
      ap (roots 0) (trees_grow k) ∙ rw z at (roots_append 0 (first_trees k) (own k ∷ []))

  counted : (k : ℕ) → length (roots 0 (first_trees k)) ≡ k
  counted k = roots_length 0 (first_trees k) ∙ trees_length 0 k

  pub last_root : (k : ℕ) → get_or (roots 0 (first_trees (k + 1))) k 0 ≡ weights (first_trees k)
  last_root k =
      let e : k + 0 ≡ k = omega arith in
      rw (roots_more k) (rw (counted k, e) at (get_or-append-add (roots 0 (first_trees k)) (weights (first_trees k) ∷ []) 0 0))

  pub earlier_root : (k j : ℕ) → j < k → get_or (roots 0 (first_trees (k + 1))) j 0 ≡ get_or (roots 0 (first_trees k)) j 0
  earlier_root k j h =
      rw (roots_more k) (get_or-append (roots 0 (first_trees k)) (weights (first_trees k) ∷ []) 0 j (omega (arith, counted k)))

-- where two functions give each root the same tree, they give the same trees
same_trees : (f g : ℕ → Tree) (rows : List Row) (j count : ℕ)
    → ((k : ℕ) → k < j + count → f (root_at rows k) ≡ g (root_at rows k)) → root_trees f rows j count ≡ root_trees g rows j count
unfolding root_trees
same_trees f g rows j zero h = refl
same_trees f g rows j (suc count) h = ap₂ ◌∷◌ (h j (omega arith)) (same_trees f g rows (j + 1) count (λ k a. h k (omega arith)))

-- ---- how much they weigh

-- tidied trees no more than those as read
tidied_lighter : (u : Units) (ws : List ℕ) (rows : List Row) (j count : ℕ)
    → weights (root_trees (λ i. tidy u (tree ws i)) rows j count) ≤ weights (root_trees (tree ws) rows j count)
unfolding root_trees weights
tidied_lighter u ws rows j zero = omega arith
tidied_lighter u ws rows j (suc count) =
    omega (arith, tidy_weight u (tree ws (root_at rows j)), tidied_lighter u ws rows (j + 1) count)

module _ {ws : List ℕ} {rows : List Row} {n count : ℕ} (held : SheetHeld ws rows n count) where
  -- the trees of the roots lie apart, in their order: those from row j on have room between a node before them and the last
  trees_apart : (j c lo : ℕ) → j + c ≡ count → lo ≤ n → (0 < c → lo ≤ root_at rows j)
      → lo + weights (root_trees (tree ws) rows j c) ≤ n
  unfolding root_trees weights
  trees_apart j zero lo e l h = omega arith
  trees_apart j (suc c) lo e l h =
      let root = root_at rows j in
      let inside = held.roots j (omega arith) in
      let ends = end_weight ws root (held.table.laid root inside) in
      let next : 0 < c → end_at ws root ≤ root_at rows (j + 1) =
      λ more. held.closed (j + 1) (omega arith) root (held.order j (j + 1) (omega arith) (omega arith)) in
      let later = trees_apart (j + 1) c (end_at ws root) (omega arith) (held.table.whole root inside) next in
      omega (arith, h (omega arith))

  sheet_light : (values : List ℕ) → weights (tidy_trees values ws rows count) ≤ node_limit
  sheet_light values =
      let all = trees_apart 0 count 0 (omega arith) (omega arith) (λ _. omega arith) in
      omega (arith, tidied_lighter (units_of values) ws rows 0 count, held.table.few)

  -- ---- rows linked for all nodes

  module _ {values links : List ℕ} (tidied : Tidied values ws links 0) (whole : length links ≡ 4 * n) where
    root_inside : (j : ℕ) → j < count → Inside links (root_at rows j)
    root_inside j h = omega (arith, held.roots j h)

    linked_trees : root_trees (linked links) rows 0 count ≡ tidy_trees values ws rows count
    linked_trees = same_trees _ _ rows 0 count (λ k h. tidied.trees (root_at rows k) (omega arith) (root_inside k (omega arith)))

    pub sheet_linked : Linked links rows count
    sheet_linked =
        record {
          rises = tidied.links;
          long = held.long;
          given = held.given;
          inside = root_inside;
          light = rw linked_trees (sheet_light values);
        }

    -- what is laid from them are the tidied trees
    pub sheet_relaid : {ws' : List ℕ} {rows' : List Row} {m : ℕ} → Relaid (root_trees (linked links) rows 0 count) ws rows ws' rows' count m
        → Relaid (tidy_trees values ws rows count) ws rows ws' rows' count m
    sheet_relaid laid = rw linked_trees at laid
