-- The trees of linked rows laid one by one, statement after statement. Assumes nothing.
use mathlib.Core.Path.{◌≡◌, refl, sym, ap, ◌∙◌}
use mathlib.Core.List.{List}
use Prim.Native.Nat.{ℕ, ◌+◌, ◌<◌}
use native.Mathlib.Omega.{arith}
use Rattle.std.specs.Prelude.{unwrap_or}
use lib.ListN.{length, get_or, set, length-set}
use lib.Seq.{sets, get_or-set_same, get_or-set_other}
use Rattle.definitions.specs.Tree.{Tree}
use Rattle.node.specs.Nodes.{layout_all, roots, weights}
use Rattle.node.proofs.Nodes.{equal_or}
use Rattle.tidying.proofs.Forest.{forest_grows}
use Rattle.symbol.specs.declared.Loc.{Loc}
use Rattle.statement.specs.declared.Row.{Row}
use Rattle.statement.specs.declared.Row.TheVariants.{Given}
use Rattle.statement.specs.Rows.{empty, row_at, place_of, root_of, place_at, root_at}
use Rattle.links.specs.Links.{linked, Fits, Lays}
use Rattle.links.proofs.Links.{links_up}
use Rattle.tidy.specs.Relaying.{root_trees, Linked, Relaid}
use Rattle.tidy.proofs.RootTrees.{first_trees, trees_grow, weights_grow, weights_within, last_root, earlier_root}

-- k statements are laid, m nodes
abbrev pub LaidSoFar : (links ws₀ : List ℕ) (rows₀ : List Row) (ws : List ℕ) (rows : List Row) (k m : ℕ) → Type 0
LaidSoFar links ws₀ rows₀ ws rows k m = Relaid (first_trees (linked links) rows₀ k) ws₀ rows₀ ws rows k m

pub none_laid : (links ws : List ℕ) (rows : List Row) → LaidSoFar links ws rows ws rows 0 0
unfolding root_trees weights layout_all
none_laid links ws rows =
    record { nodes = refl; words = refl; long = refl; given = λ j h. absurd (omega arith); others = λ j h. refl }

module _ {links ws₀ : List ℕ} {rows₀ : List Row} {ws : List ℕ} {rows : List Row} {count k m : ℕ}
    (ready : Linked links rows₀ count) (sofar : LaidSoFar links ws₀ rows₀ ws rows k m) (less : k < count) where
  abbrev root : ℕ
  root = root_at rows₀ k

  abbrev place : Loc
  place = place_at rows₀ k

  pub next_inside : k < length rows
  next_inside = omega (arith, sofar.long, ready.long)

  pub next_given : row_at rows k ≡ Given place root
  next_given = sofar.others k (omega arith) ∙ ready.given k less

  -- as it is read
  module _ {p : Loc} {r : ℕ} (is : row_at rows k ≡ Given p r) where
    pub place_told : p ≡ place
    place_told = ap place_of (sym is ∙ next_given)

    pub root_told : r ≡ root
    root_told = ap (λ (x : Row). unwrap_or (root_of x) 0) (sym is ∙ next_given)

  -- the next tree has room
  pub next_fits : Fits links root m
  next_fits =
      record {
        row = record { links = links_up root (omega arith) ready.rises; inside = ready.inside k less };
        few = omega (arith, weights_within (linked links) rows₀ k count less, ready.light, sofar.nodes);
      }

  -- the row with the number of its fresh root
  abbrev rows' : List Row
  rows' = set rows k (Given place m)

  given_now : (j : ℕ) → j < k + 1 →
      row_at rows' j ≡ Given (place_at rows₀ j) (get_or (roots 0 (first_trees (linked links) rows₀ (k + 1))) j 0)
  given_now j h =
      equal_or j k
      (λ e. rw e
      (get_or-set_same rows k (Given place m) empty next_inside
      ∙ ap (Given place) (sofar.nodes ∙ sym (last_root (linked links) rows₀ k))))
      (λ e. get_or-set_other rows k j (Given place m) empty e ∙ sofar.given j (omega (arith, e))
      ∙ ap (Given (place_at rows₀ j)) (sym (earlier_root (linked links) rows₀ k j (omega (arith, e)))))

  -- the next tree is laid
  pub next_laid : {ws' : List ℕ} {r : ℕ} → Lays links root m ws ws' r → LaidSoFar links ws₀ rows₀ ws' rows' (k + 1) r
  next_laid lays =
      let grown = forest_grows ws₀ (first_trees (linked links) rows₀ k) (linked links root) in
      record {
        nodes = lays.ends ∙ rw sofar.nodes (sym (weights_grow (linked links) rows₀ k));
        words =
            lays.words ∙ rw (sofar.words, sofar.nodes) grown
            ∙ ap (λ (ts : List Tree). sets ws₀ 0 (layout_all 0 ts)) (sym (trees_grow (linked links) rows₀ k));
        long = length-set rows k (Given place m) ∙ sofar.long;
        given = given_now;
        others = λ j h. get_or-set_other rows k j (Given place m) empty (λ z. omega arith) ∙ sofar.others j (omega arith);
      }
