-- What each step of the second pass relies on and does.
use Rattle.std.specs.Prelude.{◌≡◌, ℕ, true, false, ◌+◌, ◌<◌, ◌≤◌, List, [], ◌∷◌, ◌++◌, length, get_or}
use Rattle.limits.specs.Limits.{depth_limit, node_limit, row_limit}
use Rattle.symbol.specs.declared.Loc.{Loc}
use Rattle.definitions.specs.Tree.{Tree, depth}
use Rattle.definitions.specs.Statement.{assign}
use Rattle.definitions.specs.Eliminate.{holds, Rewritten, sides, stores, rewrite}
use Rattle.node.specs.Nodes.{tree}
use Rattle.statement.specs.declared.Row.{Row}
use Rattle.statement.specs.Rows.{RoomFor, statements_of}
use Rattle.statement.specs.Handover.{Closed, SheetShared}
use Rattle.rewrite.specs.Stage.{Stage, rows_of, Flagged, pledged, NoRoot, MayRoot, Tidy}

-- ---- where a step is

-- node i is one of the sheet's
pub record NodeShared (ws sh tx : List ℕ) (i n : ℕ) (texts : List Tree) : Type 0 where
  pub shared : SheetShared ws sh tx n texts
  pub below : i < n

-- t is a text, by the mark of the node that has it
pub record TextShared (ws sh tx : List ℕ) (t n : ℕ) (texts : List Tree) : Type 0 where
  pub shared : SheetShared ws sh tx n texts
  pub below : t < length texts
  pub mark : get_or sh (get_or tx t 0) 0 ≡ t + 1

-- node i is a statement's root
pub record RootShared (ws sh tx : List ℕ) (i n : ℕ) (texts : List Tree) : Type 0 where
  pub node : NodeShared ws sh tx i n texts
  pub closed : Closed ws i

-- the pass may go on there, in a sheet of n nodes: rows are left for it, and some more
pub record RewriteReady (n more : ℕ) (At : ℕ → List Tree → Type 0) (p : Stage) : Type 0 where
  pub texts : List Tree
  pub at : At n texts
  pub flags : length p.flags ≡ node_limit
  pub rows : length p.rows ≤ row_limit
  pub room : RoomFor p.rows (more + pledged p (length texts))

-- ---- what a step does

-- by the definition, for each choice of temporaries and of those stored
abbrev pub Rewriter : Type 0
Rewriter = (ℕ → Loc) → List ℕ → Rewritten

-- the sides of a tree rewritten
abbrev pub inside : (texts : List Tree) (temporary : ℕ → Loc) → List ℕ → Tree → Rewritten
inside texts temporary st t = sides texts temporary (λ st' u. rewrite texts temporary depth_limit st' u) st t

-- at a node, at its sides, at a text, and at a statement whose root is node i
abbrev pub at_node : (ws : List ℕ) (i : ℕ) (texts : List Tree) → Rewriter
at_node ws i texts temporary st = rewrite texts temporary depth_limit st (tree ws i)

abbrev pub at_sides : (ws : List ℕ) (i : ℕ) (texts : List Tree) → Rewriter
at_sides ws i texts temporary st = inside texts temporary st (tree ws i)

abbrev pub at_text : (ws tx : List ℕ) (t : ℕ) (texts : List Tree) → Rewriter
at_text ws tx t texts temporary st = stores texts temporary (holds st t) t (tree ws (get_or tx t 0)) st (inside texts temporary)

abbrev pub at_statement : (ws : List ℕ) (place : Loc) (i : ℕ) (texts : List Tree) → Rewriter
at_statement ws place i texts temporary st =
    let x = rewrite texts temporary (depth (tree ws i)) st (tree ws i) in
    record { stored = x.stored; before = x.before ++ (assign place x.tree ∷ []); tree = x.tree }

-- the flags and rows after a rewriting, from the rows rs on
pub record Puts (temporary : ℕ → Loc) (ws sh : List ℕ) (rs : List Row) (p : Stage) (x : Rewritten) : Type 0 where
  pub stored : Flagged p.flags x.stored
  pub rows : statements_of temporary ws sh (rows_of p) ≡ statements_of temporary ws sh rs ++ x.before

-- storing texts keeps the flags that are set, puts no row on a root that might have one, and keeps the rows tidy
pub record TextsAdded (ws sh : List ℕ) (n k : ℕ) (p p' : Stage) : Type 0 where
  pub grown : (t : ℕ) → get_or p.flags t false ≡ true → get_or p'.flags t false ≡ true
  pub fresh : (hi x : ℕ) → MayRoot sh p.flags hi x → NoRoot x p → NoRoot x p'
  pub tidy : (hi : ℕ) → Tidy ws sh n k hi p → Tidy ws sh n k hi p'

-- a statement with the root i, after those with lower ones
abbrev pub StatementAdded : (ws sh : List ℕ) (n k i : ℕ) (p p' : Stage) → Type 0
StatementAdded ws sh n k i p p' = (hi : ℕ) → hi ≤ i → Tidy ws sh n k hi p → Tidy ws sh n k (i + 1) p'

-- rewriting by f takes the rows pledged, and some more; Added is what it keeps of the rows
pub record Rewrote (more : ℕ) (Added : Type 0) (texts : List Tree) (ws sh : List ℕ) (p p' : Stage) (f : Rewriter) : Type 0 where
  pub flags : length p'.flags ≡ node_limit
  pub rows : length p'.rows ≡ length p.rows
  pub room : pledged p' (length texts) ≤ more + pledged p (length texts)
  pub added : Added
  pub puts : (temporary : ℕ → Loc) (st : List ℕ) → Flagged p.flags st → Puts temporary ws sh (rows_of p) p' (f temporary st)

-- below a statement
abbrev pub TextsStored : (n : ℕ) (texts : List Tree) (ws sh : List ℕ) (p p' : Stage) (f : Rewriter) → Type 0
TextsStored n texts ws sh p p' f = Rewrote 0 (TextsAdded ws sh n (length texts) p p') texts ws sh p p' f

-- at a statement whose root is node i
abbrev pub StatementPut : (n : ℕ) (texts : List Tree) (place : Loc) (i : ℕ) (ws sh : List ℕ) (p p' : Stage) → Type 0
StatementPut n texts place i ws sh p p' =
    Rewrote 1 (StatementAdded ws sh n (length texts) i p p') texts ws sh p p' (at_statement ws place i texts)

-- wherever At says what the marks and texts are
abbrev pub StoresTexts : (At : ℕ → List Tree → Type 0) (f : List Tree → Rewriter) (ws sh : List ℕ) (p p' : Stage) → Type 0
StoresTexts At f ws sh p p' = (n : ℕ) (texts : List Tree) → At n texts → TextsStored n texts ws sh p p' (f texts)

abbrev pub PutsStatement : (At : ℕ → List Tree → Type 0) (place : Loc) (i : ℕ) (ws sh : List ℕ) (p p' : Stage) → Type 0
PutsStatement At place i ws sh p p' = (n : ℕ) (texts : List Tree) → At n texts → StatementPut n texts place i ws sh p p'
