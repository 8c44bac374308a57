-- Place, tree by the header's settings, and no byte left over.
use Rattle.std.proofs.Common.{rules, ℕ, Ok, refl, ap, eq-eqb, ne_eqb}
use Rattle.definitions.specs.Sheet.{statement_at}
use Rattle.refusal.proofs.Passing.{passed_on}
use Rattle.trees.proofs.Trees.{tree_was_got, tree_was_refused}
use Rattle.trees.proofs.read_statement.Goals as goal

pub returns-in_err-place : goal.returns-in_err-place
unfolding statement_at
returns-in_err-place c = rw (passed_on c.from_residual.ensures, ← c.in_err-place.ensures) refl

pub returns-in_err-read_tree : goal.returns-in_err-read_tree
unfolding statement_at
returns-in_err-read_tree c =
    let refused = tree_was_refused _ _ _ _ c.in_err-read_tree.ensures.read in
    rw (passed_on c.from_residual-in_err-read_tree.ensures, ← c.in_ok-place.ensures, refused) refl

pub returns-then-parser-bytes : goal.returns-then-parser-bytes
unfolding statement_at
returns-then-parser-bytes c =
    let tree = tree_was_got _ _ _ c.in_ok-read_tree.ensures.read in
    rw (← c.in_ok-place.ensures, tree.read, ne_eqb _ _ c.if-parser-bytes.true) refl

pub returns : goal.returns
unfolding statement_at
returns c =
    let tree = tree_was_got _ _ _ c.in_ok-read_tree.ensures.read in
    rw (← c.in_ok-place.ensures, tree.read, eq-eqb _ _ c.if-parser-bytes.false)
    (ap (λ (m : ℕ). Ok (c.in_ok-place.place, m)) tree.count, refl, search (rules, tree.words))
