-- Every text has at least two nodes with its mark: the marks of a sheet are counted by node. Assumes nothing.
use mathlib.Core.Path.{◌≡◌, refl, sym, ap, ◌∙◌}
use mathlib.Core.Bool.{Bool, true}
use mathlib.Core.List.{List}
use Prim.Native.Nat.{ℕ, zero, suc, ◌+◌, ◌*◌, ◌<◌, ◌≤◌}
use native.Mathlib.Omega.{arith}
use native.Mathlib.Numerals.{add-one}
use lib.ListN.{length}
use lib.Dec.{eqb, leb}
use borrow.Author.Tests.{eq-eqb, ne_eqb, le-leb, lt-leb}
use Rattle.limits.specs.Limits.{side_limit}
use Rattle.definitions.specs.Tree.{Tree}
use Rattle.definitions.specs.Same.{same, among}
use Rattle.definitions.specs.Eliminate.{texts_of}
use Rattle.definitions.proofs.Comparing.{by_test}
use Rattle.definitions.proofs.Repeating.{tally, tally_at_most, copies, copies_all}
use Rattle.node.specs.declared.Node.{Node}
use Rattle.node.specs.declared.Node.TheVariants.{Const, Var, Unary as UnaryNode, Binary as BinaryNode}
use Rattle.node.specs.Marks.{mark_of}
use Rattle.node.specs.Nodes.{node_at, end_at, node_tree, tree, Lies}
use Rattle.node.specs.Views.{zeros}
use Rattle.node.proofs.Nodes.{below_or, equal_or, Side, tree_node, laid_induction}
use Rattle.statement.specs.declared.Row.{Row}
use Rattle.statement.specs.Rows.{root_at, sheet_from}
use Rattle.statement.specs.Handover.{SheetHeld}
use Rattle.numbers.specs.Filled.{at}
use Rattle.share.proofs.Texts.{among_mark}
use Rattle.share.proofs.TextsMetTwice.{mark_alike, text_stands_twice}

-- ---- how many of the first n numbers pass a test

unfoldable counted : (ℕ → Bool) → ℕ → ℕ
counted f zero = 0
counted f (suc n) = counted f n + tally (f n)

counted_next : (f : ℕ → Bool) (n : ℕ) → counted f (n + 1) ≡ counted f n + tally (f n)
unfolding counted
counted_next f n = rw add-one refl

counted_up : (f : ℕ → Bool) (m n : ℕ) → m ≤ n → counted f m ≤ counted f n
unfolding counted
counted_up f m zero h = let e : m ≡ 0 = omega arith in rw e (omega arith)
counted_up f m (suc n) h =
    equal_or m (suc n) (λ e. rw e (omega arith)) (λ d. omega (arith, counted_up f m n (omega arith)))

counted_most : (f : ℕ → Bool) (n : ℕ) → counted f n ≤ n
unfolding counted
counted_most f zero = omega arith
counted_most f (suc n) = omega (arith, tally_at_most (f n), counted_most f n)

-- numbers that pass one test pass another
counted_less : (f g : ℕ → Bool) (n : ℕ) → ((j : ℕ) → j < n → f j ≡ true → g j ≡ true) → counted f n ≤ counted g n
unfolding counted
counted_less f g zero h = omega arith
counted_less f g (suc n) h =
    let rest = counted_less f g n (λ j l. h j (omega arith)) in
    by_test (f n)
    (λ e. omega (arith, ap tally e, ap tally (h n (omega arith) e), rest))
    (λ e. omega (arith, ap tally e, rest))

-- and no number passes two tests
counted_apart : (f g h : ℕ → Bool) (n : ℕ) → ((j : ℕ) → tally (f j) + tally (g j) ≤ tally (h j)) →
    counted f n + counted g n ≤ counted h n
unfolding counted
counted_apart f g h zero p = omega arith
counted_apart f g h (suc n) p = omega (arith, p n, counted_apart f g h n p)

-- ---- trees the same as c, by node

module _ (ws : List ℕ) (c : Tree) where
  abbrev alike : ℕ → Bool
  alike j = same (tree ws j) c

  tree_alike_by : (i : ℕ) (x : Node) → tree ws i ≡ node_tree (tree ws) i x →
      Lies (λ j. Side ws side_limit i j × (counted alike (end_at ws j) ≡ counted alike j + copies c (tree ws j))) ws i x →
      counted alike (end_at ws i) ≡ counted alike i + copies c (tree ws i)
  unfolding copies
  tree_alike_by i (Const k) e h =
      omega (arith, ap (counted alike) h, counted_next alike i, ap (λ (t : Tree). tally (same t c)) e, ap (copies c) e)
  tree_alike_by i (Var p) e h =
      omega (arith, ap (counted alike) h, counted_next alike i, ap (λ (t : Tree). tally (same t c)) e, ap (copies c) e)
  tree_alike_by i (UnaryNode o) e h =
      omega (
        arith,
        ap (counted alike) h.1,
        h.0.1,
        counted_next alike i,
        ap (λ (t : Tree). tally (same t c)) e,
        ap (copies c) e,
      )
  tree_alike_by i (BinaryNode o r) e h =
      omega (
        arith,
        ap (counted alike) h.3,
        h.1.1,
        ap (counted alike) h.2,
        h.0.1,
        counted_next alike i,
        ap (λ (t : Tree). tally (same t c)) e,
        ap (copies c) e,
      )

  module _ (rows : List Row) (n count : ℕ) (s : SheetHeld ws rows n count) where
    -- a tree's nodes are those from its root up to its end
    tree_alike : (i : ℕ) → i < n → counted alike (end_at ws i) ≡ counted alike i + copies c (tree ws i)
    tree_alike i l =
        laid_induction ws (λ i. counted alike (end_at ws i) ≡ counted alike i + copies c (tree ws i))
        (λ i h. tree_alike_by i (node_at ws i) (tree_node ws i h)) i (s.table.laid i l)

    -- the statements' trees lie one after another
    rest_alike : (left j m : ℕ) → j + left ≤ count → m ≤ n → (0 < left → m ≤ root_at rows j) →
        counted alike m + copies_all c (sheet_from ws rows j left) ≤ counted alike n
    unfolding copies_all sheet_from
    rest_alike zero j m a b h = omega (arith, counted_up alike m n b)
    rest_alike (suc left) j m a b h =
        let root = root_at rows j in
        let below = s.roots j (omega arith) in
        omega (
          arith,
          counted_up alike m root (h (omega arith)),
          tree_alike root below,
          rest_alike left (j + 1) (end_at ws root) (omega arith) (s.table.whole root below)
              (λ l. s.closed (j + 1) (omega arith) root (s.order j (j + 1) (omega arith) (omega arith))),
        )

    sheet_alike : copies_all c (sheet_from ws rows 0 count) ≤ counted alike n
    unfolding counted
    sheet_alike = omega (arith, rest_alike count 0 0 (omega arith) (omega arith) (λ l. omega arith))

-- ---- the nodes of each mark

mark_apart : (m v : ℕ) → tally (leb m v) + tally (eqb m (v + 1)) ≤ tally (leb m (v + 1))
mark_apart m v =
    below_or v m
    (λ l. equal_or m (v + 1)
    (λ e. rw (lt-leb m v l, eq-eqb m (v + 1) e, le-leb m (v + 1) (omega arith)) (omega arith))
    (λ d. rw (lt-leb m v l, ne_eqb m (v + 1) d) (omega arith)))
    (λ l. rw (le-leb m v l, ne_eqb m (v + 1) (λ e. omega arith), le-leb m (v + 1) (omega arith)) (omega arith))

zeros_counted : (ms : List ℕ) (n : ℕ) → zeros ms n ≤ counted (λ j. leb (at ms j) 0) n
unfolding zeros counted
zeros_counted ms zero = omega arith
zeros_counted ms (suc n) =
    equal_or (at ms n) 0
    (λ e. rw e (omega (arith, zeros_counted ms n)))
    (λ d. rw (ne_eqb (at ms n) 0 d) (omega (arith, zeros_counted ms n)))

module _ {ws : List ℕ} {rows : List Row} {n count : ℕ} (s : SheetHeld ws rows n count) where
  abbrev texts : List Tree
  texts = texts_of true (sheet_from ws rows 0 count)

  module _ (sh tx : List ℕ) (marks : (i : ℕ) → i < n → at sh i ≡ mark_of texts (tree ws i))
      (nodes : (t : ℕ) → t < length texts → at tx t < n) (own : (t : ℕ) → t < length texts → at sh (at tx t) ≡ t + 1) where
    -- all nodes that are the same as a text have its mark
    text_twice : (t : ℕ) → t < length texts → 2 ≤ counted (λ j. eqb (at sh j) (t + 1)) n
    text_twice t l =
        let c = tree ws (at tx t) in
        let mark : mark_of texts c ≡ t + 1 = sym (marks (at tx t) (nodes t l)) ∙ own t l in
        let given : among texts c ≡ true = among_mark texts c ∙ le-leb 1 (mark_of texts c) (omega arith) in
        omega (
          arith,
          ap tally given,
          text_stands_twice c (sheet_from ws rows 0 count),
          sheet_alike ws c rows n count s,
          counted_less (λ j. same (tree ws j) c) (λ j. eqb (at sh j) (t + 1)) n
              (λ j b e. eq-eqb (at sh j) (t + 1) (marks j b ∙ mark_alike texts (tree ws j) c e ∙ mark)),
        )

    marked_twice : (v : ℕ) → v ≤ length texts → zeros sh n + 2 * v ≤ counted (λ j. leb (at sh j) v) n
    marked_twice zero h = omega (arith, zeros_counted sh n)
    marked_twice (suc v) h =
        let e : suc v ≡ v + 1 = omega arith in
        rw e
        (omega (
          arith,
          marked_twice v (omega arith),
          text_twice v (omega arith),
          counted_apart (λ j. leb (at sh j) v) (λ j. eqb (at sh j) (v + 1)) (λ j. leb (at sh j) (v + 1)) n
              (λ j. mark_apart (at sh j) v),
        ))

    pub texts_twice : zeros sh n + 2 * length texts ≤ n
    texts_twice =
        omega (arith, marked_twice (length texts) (omega arith), counted_most (λ j. leb (at sh j) (length texts)) n)
