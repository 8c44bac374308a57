-- One row: it makes the same call, another call, or none. Assumes nothing.
use mathlib.Core.Path.{◌≡◌, refl, sym, ap, ◌∙◌}
use mathlib.Core.Bool.{Bool, true, false, false≢true}
use mathlib.Core.List.{List, [], ◌∷◌}
use mathlib.Core.Logic.{◌≢◌}
use mathlib.Core.Option as maybe
use Rattle.std.proofs.Common.{None, Some}
use Prim.Native.Nat.{ℕ}
use Rattle.symbol.specs.declared.Loc.{Loc}
use Rattle.operation.specs.Operators.{is_function1, is_function2}
use Rattle.operation.specs.declared.One.TheVariants.{Unary, Power, Function1}
use Rattle.operation.specs.declared.Two.TheVariants.{Binary, Choice, PowerMod, Function2}
use Rattle.definitions.specs.Tree.{Tree, constant, variable, one, two}
use Rattle.definitions.specs.Same.{same}
use Rattle.definitions.specs.Trim.{first_of, seek}
use Rattle.definitions.proofs.Sameness.{Same, constants, variables, ones, straight, crossed, same_tells}
use Rattle.node.specs.declared.Node.{Node}
use Rattle.node.specs.declared.Node.TheVariants.{Const, Var, Unary as UnaryNode, Binary as BinaryNode}
use Rattle.node.specs.Nodes.{node_at, node_tree, is_function}
use Rattle.node.specs.Views.{seen, view}
use Rattle.node.proofs.Views.{seen_node}
use Rattle.statement.specs.declared.Row.{Row}
use Rattle.statement.specs.declared.Row.TheVariants.{Given, Copied, Kept, Passed, Made}
use Rattle.statement.specs.Rows.{call_into, statements_of}
use Rattle.statement.specs.Rowing.{All, Unmade}
use Rattle.compare.specs.Comparison.{TwoTrees, SameSeen}
use Rattle.keys.specs.Keys.{SeenMix}
use Rattle.keys.proofs.Mixing.{mixes_differ}
use Rattle.calls.specs.Calls.{CallSought, CallFresh, CallFound}

-- ---- trees of functions

abbrev function_tree : Tree → Bool
function_tree (constant k) = false
function_tree (variable p) = false
function_tree (one o a) = is_function1 o
function_tree (two o l r) = is_function2 o

same_function : {t u : Tree} → Same t u → function_tree t ≡ function_tree u
same_function (constants k) = refl
same_function (variables p) = refl
same_function (ones o h) = refl
same_function (straight o h k) = refl
same_function (crossed o e h k) = refl

-- what is no function is not the same as one
function_differs : (u t : Tree) → function_tree u ≡ false → function_tree t ≡ true → same u t ≡ false
function_differs u t f g = go (same u t) refl
  where
    go : (b : Bool) → same u t ≡ b → b ≡ false
    go true e = absurd (false≢true (sym f ∙ same_function (same_tells u t e) ∙ g))
    go false e = refl

node_function : (v : ℕ → Tree) (i : ℕ) (m : Node) → function_tree (node_tree v i m) ≡ is_function m
node_function v i (Const k) = refl
node_function v i (Var p) = refl
node_function v i (UnaryNode o) = refl
node_function v i (BinaryNode o r) = refl

-- a function t is sought in the statement that is made for u
seek_made : (t : Tree) → function_tree t ≡ true → (p : Loc) (u : Tree) →
    seek t (call_into p u ∷ []) ≡ first_of (same u t) p maybe.none
unfolding seek
seek_made t h p (constant k) = rw (function_differs (constant k) t refl h) refl
seek_made t h p (variable q) = rw (function_differs (variable q) t refl h) refl
seek_made t h p (one (Unary c) a) = rw (function_differs (one (Unary c) a) t refl h) refl
seek_made t h p (one (Power s w) a) = rw (function_differs (one (Power s w) a) t refl h) refl
seek_made t h p (one (Function1 f) a) = refl
seek_made t h p (two (Binary c) l r) = rw (function_differs (two (Binary c) l r) t refl h) refl
seek_made t h p (two (Choice q) l r) = rw (function_differs (two (Choice q) l r) t refl h) refl
seek_made t h p (two (PowerMod w) l r) = rw (function_differs (two (PowerMod w) l r) t refl h) refl
seek_made t h p (two (Function2 f) l r) = refl

-- ---- a row that makes a call

module _ {ws : List ℕ} {i m b link key : ℕ} {row : Row} (s : CallSought ws i (row ∷ [])) (told : row ≡ Made m b link key) where
  pub made_trees : TwoTrees ws b i
  unfolding All
  made_trees = record { first = (rw told at s).placed.0; second = s.tree }

  module _ (ms : List ℕ) {r : Bool} (h : SameSeen ws ms b i r) where
    made_sought : (temporary : ℕ → Loc) → CallFresh temporary ws i (row ∷ []) →
        seek (seen temporary ws ms i) (statements_of temporary ws ms (row ∷ [])) ≡ first_of r (temporary m) maybe.none
    unfolding All statements_of
    made_sought temporary f =
        let function = ap function_tree (seen_node temporary ws ms i s.tree.laid)
        ∙ node_function (view temporary ws ms) i (node_at ws i) ∙ s.called in
        let ends = (rw told at f).trees.0 in
        rw (told, h temporary f.nodes f.fresh ends f.tree)
        (seek_made (seen temporary ws ms i) function (temporary m) (seen temporary ws ms b))

    pub same_call_hits : r ≡ true → CallFound ws ms i (row ∷ []) (Some m)
    unfolding All
    same_call_hits e =
        record { low = λ next l. (rw told at l).0; is = λ temporary f. rw (made_sought temporary f, e) refl }

    pub other_call_misses : r ≡ false → CallFound ws ms i (row ∷ []) None
    other_call_misses e = record { low = λ next l. tt; is = λ temporary f. rw (made_sought temporary f, e) refl }

  -- a call with another mix is another call
  pub other_mix_misses : (ms : List ℕ) {x y : ℕ} → SeenMix ws ms b x → SeenMix ws ms i y → x ≢ y →
      CallFound ws ms i (row ∷ []) None
  other_mix_misses ms h k apart = other_call_misses ms (mixes_differ ws ms b i h k apart) refl

-- ---- a row that makes none

pub unmade_misses : (ws ms : List ℕ) (i : ℕ) {row z : Row} → row ≡ z → Unmade z → CallFound ws ms i (row ∷ []) None
unfolding seek statements_of
unmade_misses ws ms i {row} {z} e h = rw e record { low = λ next l. tt; is = λ temporary f. none_sought temporary z h }
  where
    none_sought : (temporary : ℕ → Loc) (z : Row) → Unmade z →
        seek (seen temporary ws ms i) (statements_of temporary ws ms (z ∷ [])) ≡ maybe.none
    none_sought temporary (Given p b) h = refl
    none_sought temporary (Copied p k) h = refl
    none_sought temporary (Kept k b) h = refl
    none_sought temporary (Passed k j) h = refl
    none_sought temporary (Made k b link key) h = absurd h
