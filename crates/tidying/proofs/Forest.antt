-- More trees laid after others. Assumes nothing.
use mathlib.Core.Path.{◌≡◌, refl, sym, ap, ◌∙◌}
use mathlib.Core.List.{List, [], ◌∷◌, ◌++◌, append_assoc, append-nil}
use Prim.Native.Nat.{ℕ, suc, ◌+◌, ◌*◌}
use native.Mathlib.Omega.{arith}
use native.Mathlib.Nat.{add-zero}
use lib.ListN.{length, length-append}
use lib.Seq.{sets}
use Rattle.words.proofs.StoreRuns.{sets_after}
use Rattle.definitions.specs.Tree.{Tree, weight}
use Rattle.node.specs.Nodes.{layout, layout_all, roots, weights}
use Rattle.node.proofs.Laying.{layout_length}

forest_length : (n : ℕ) (ts : List Tree) → length (layout_all n ts) ≡ 4 * weights ts
unfolding layout_all weights
forest_length n [] = refl
forest_length n (t ∷ ts) =
    omega (arith, length-append (layout n t) (layout_all (n + weight t) ts), layout_length n t, forest_length (n + weight t) ts)

pub roots_length : (n : ℕ) (ts : List Tree) → length (roots n ts) ≡ length ts
unfolding roots
roots_length n [] = refl
roots_length n (t ∷ ts) = ap suc (roots_length (n + weight t) ts)

-- ---- more trees after them

pub weights_append : (ts us : List Tree) → weights (ts ++ us) ≡ weights ts + weights us
unfolding weights
weights_append [] us = omega arith
weights_append (t ∷ ts) us = omega (arith, weights_append ts us)

pub roots_append : (n : ℕ) (ts us : List Tree) → roots n (ts ++ us) ≡ roots n ts ++ roots (n + weights ts) us
unfolding roots weights
roots_append n [] us = ap (λ (k : ℕ). roots k us) (sym (add-zero n))
roots_append n (t ∷ ts) us =
    let e : n + weight t + weights ts ≡ n + (weight t + weights ts) = omega arith in
    ap (λ (l : List ℕ). n ∷ l) (rw e at (roots_append (n + weight t) ts us))

forest_append : (n : ℕ) (ts us : List Tree) → layout_all n (ts ++ us) ≡ layout_all n ts ++ layout_all (n + weights ts) us
unfolding layout_all weights
forest_append n [] us = ap (λ (k : ℕ). layout_all k us) (sym (add-zero n))
forest_append n (t ∷ ts) us =
    let e : n + weight t + weights ts ≡ n + (weight t + weights ts) = omega arith in
    let later = rw e at (forest_append (n + weight t) ts us) in
    ap (λ (l : List ℕ). layout n t ++ l) later ∙ sym (append_assoc (layout n t) _ _)

-- a tree laid after the others is one of them
pub forest_grows : (ws : List ℕ) (ts : List Tree) (t : Tree)
    → sets (sets ws 0 (layout_all 0 ts)) (4 * weights ts) (layout (weights ts) t) ≡ sets ws 0 (layout_all 0 (ts ++ (t ∷ [])))
unfolding layout_all
forest_grows ws ts t =
    let z : 0 + weights ts ≡ weights ts = omega arith in
    sets_after (layout_all 0 ts) (layout (weights ts) t) ws 0 (4 * weights ts) (omega (arith, forest_length 0 ts))
    ∙ ap (λ (l : List ℕ). sets ws 0 l)
    (ap (λ (l : List ℕ). layout_all 0 ts ++ l) (sym (append-nil (layout (weights ts) t)))
    ∙ sym (rw z at (forest_append 0 ts (t ∷ []))))
