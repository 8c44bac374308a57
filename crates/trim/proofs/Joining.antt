-- Laws of joining the two trimmed sides of a node: they stay, the right one is stored, or both are. Assumes nothing.
use mathlib.Core.Path.{◌≡◌, refl, sym, ap, ap₂, ◌∙◌}
use mathlib.Core.Bool.{false}
use mathlib.Core.List.{List, [], ◌∷◌, ◌++◌, append_assoc}
use Prim.Native.Nat.{ℕ, suc, ◌+◌, ◌<◌, ◌≤◌}
use native.Mathlib.Omega.{arith}
use lib.ListN.{get_or}
use borrow.Author.Tests.{ne_eqb}
use Rattle.limits.specs.Limits.{temporary_limit}
use Rattle.symbol.specs.declared.Loc.{Loc}
use Rattle.symbol.specs.declared.Loc.TheVariants.{Stack}
use Rattle.calls.specs.declared.Settings.{Settings}
use Rattle.operation.specs.Operators.{is_function2}
use Rattle.operation.specs.declared.Two.{Two}
use Rattle.definitions.specs.Tree.{Tree, ershov, join}
use Rattle.definitions.specs.Statement.{Statement, assign}
use Rattle.definitions.specs.Trim.{Storing, nothing, right, both, storing}
use Rattle.definitions.proofs.Evaluation.{ershov_positive, join_covers}
use Rattle.definitions.proofs.TrimFits.{storing_tells, join_fits}
use Rattle.node.specs.declared.Node.TheVariants.{Binary as BinaryNode}
use Rattle.node.specs.Nodes.{node_at, Table}
use Rattle.node.specs.Views.{masked, seen, view, Outside}
use Rattle.node.proofs.Nodes.{equal_or}
use Rattle.statement.specs.declared.Row.{Row}
use Rattle.statement.specs.declared.Row.TheVariants.{Kept}
use Rattle.statement.specs.Rows.{RoomFor, statements_of}
use Rattle.statement.proofs.RowsPut.{put_length}
use Rattle.statement.proofs.EveryRow.{all_append, roots_map}
use Rattle.trim.specs.declared.Trimmed.{Trimmed as Answer}
use Rattle.trim.specs.Rowing.{InTree}
use Rattle.calls.specs.Progress.{Progress}
use Rattle.trim.specs.Trimming.{plain_of, TrimReady, TreeTrimmed, ViewTrimmed, NodeTrimmed}
use Rattle.trim.specs.Joining.{stores, StoreReady, kept, stored, joined}
use Rattle.trim.proofs.Gathering.{TwoSided}
use Rattle.trim.proofs.Trimming.{result_same}
use Rattle.trim.proofs.TwoSides.{sides, gathered_two, both_read, number_left, two_left}
use Rattle.trim.proofs.Keeping.{left_at, right_at, Below, sound_below, room_kept, name_kept, Stored, side_stored}

-- a tree of number 2 or more is no temporary
unmarked_wide : (m : ℕ) (t : Tree) → 2 ≤ ershov (masked (λ k. Stack k) m t) → m ≡ 0
unfolding ershov
unmarked_wide m t h = equal_or m 0 (λ e. e) (λ e. absurd (omega (arith, rw (ne_eqb m 0 e) at h)))

module _ {h : Settings} {ws : List ℕ} {n i r : ℕ} {p p1 p2 : Progress} {o : Two} {a b : Answer} (t : Table ws n)
    (ready : TrimReady h ws n (i + 1) i p)
    (e : node_at ws i ≡ BinaryNode o r) (x : ViewTrimmed h ws n (i + 1) p p1 a) (y : ViewTrimmed h ws n r p1 p2 b) where
  abbrev rows : List Row
  rows = x.tree.rows ++ y.tree.rows

  abbrev next : ℕ
  next = p2.state.next

  two_sides : TwoSided ws n i r
  two_sides = sides t ready e

  pub trimmed_below : Below h ws n i p p2 rows
  trimmed_below =
      let order = two_sides.order in
      record {
        so = gathered_two t ready e x y;
        under =
            all_append _ x.tree.rows y.tree.rows
            (roots_map (InTree ws n (i + 1)) _ (λ k t. omega (arith, t.0)) x.tree.rows x.tree.so.inside)
            (roots_map (InTree ws n r) _ (λ k t. omega (arith, t.0)) y.tree.rows y.tree.so.inside);
      }

  left_unmarked : 2 ≤ a.ershov → get_or p2.marks (i + 1) 0 ≡ 0
  left_unmarked w =
      unmarked_wide _ (seen (λ k. Stack k) ws p2.marks (i + 1)) (omega (arith, number_left t ready e x y (λ k. Stack k)))

  right_unmarked : 2 ≤ b.ershov → get_or p2.marks r 0 ≡ 0
  right_unmarked w = unmarked_wide _ (seen (λ k. Stack k) ws p2.marks r) (omega (arith, y.tree.number (λ k. Stack k)))

  -- neither side is in the other's tree
  left_apart : Outside ws r (i + 1)
  left_apart u v = omega (arith, two_sides.order)

  right_apart : Outside ws (i + 1) r
  right_apart u v = omega (arith, two_sides.meet)

  -- ---- the sides stay

  nothing_stored : is_function2 o ≡ false → storing h.scratch o a.ershov b.ershov ≡ nothing →
      TreeTrimmed h ws n (i + 1) i p p2 (λ temporary. seen temporary ws p.marks i) (λ temporary. seen temporary ws p2.marks i)
      (join a.ershov b.ershov) 0
  nothing_stored plain chosen =
      let rest = storing_tells h.scratch o a.ershov b.ershov nothing chosen in
      two_left t ready e x y nothing _ plain chosen (gathered_two t ready e x y) (λ temporary. refl) (λ temporary. refl)
      (λ temporary. result_same refl (both_read t ready e x y temporary) refl)
      (λ temporary. ap₂ join (number_left t ready e x y temporary) (y.tree.number temporary))
      (join_fits h.scratch a.ershov b.ershov x.tree.few y.tree.few rest)

  -- ---- the right one is stored

  module _ (chosen : storing h.scratch o a.ershov b.ershov ≡ right) where
    modulus_wide : (a.ershov < b.ershov) × (1 ≤ a.ershov)
    modulus_wide =
        let temporary : ℕ → Loc = λ k. Stack k in (
          storing_tells h.scratch o a.ershov b.ershov right chosen,
          omega (arith, number_left t ready e x y temporary, ershov_positive (view temporary ws p2.marks (i + 1))),
        )

    right_stored : is_function2 o ≡ false → TreeTrimmed h ws n (i + 1) i p (kept r p2) (λ temporary. seen temporary ws p.marks i)
        (λ temporary. seen temporary ws (kept r p2).marks i) (join a.ershov 1) 0
    unfolding ershov
    right_stored plain =
        let blank = right_unmarked (omega (arith, modulus_wide)) in
        let modulus = side_stored t ready trimmed_below (right_at two_sides) blank in
        two_left t ready e x y right _ plain chosen modulus.below.so
        (λ temporary. modulus.other temporary (i + 1) two_sides.left right_apart) modulus.own
        (λ temporary.
        let store = assign (temporary next) (view temporary ws p2.marks r) ∷ [] in
        result_same (omega arith)
        (ap (λ (l : List Statement). l ++ store) (both_read t ready e x y temporary) ∙ sym (modulus.read temporary)) refl)
        (λ temporary. ap (λ (k : ℕ). join k 1) (number_left t ready e x y temporary))
        (omega (arith, modulus_wide, join_covers a.ershov 1, y.tree.few))

  -- ---- both are stored

  module _ (chosen : storing h.scratch o a.ershov b.ershov ≡ both) where
    both_wide : (2 ≤ a.ershov) × (2 ≤ b.ershov)
    both_wide =
        let full = storing_tells h.scratch o a.ershov b.ershov both chosen in
        (omega (arith, ready.scratch.0), omega (arith, ready.scratch.0))

    left_stored : Stored h ws n i (i + 1) p p2 rows
    left_stored = side_stored t ready trimmed_below (left_at two_sides) (left_unmarked both_wide.0)

    pub both_room : RoomFor p2.rows (p2.state.count + 2) × (next + 2 ≤ temporary_limit)
    both_room =
        let room = room_kept t ready left_stored.below in
        let same = put_length p2.rows p2.state.count (Kept next (i + 1)) in
        (omega arith, omega (arith, name_kept t ready left_stored.below))

    both_stored : is_function2 o ≡ false →
        TreeTrimmed h ws n (i + 1) i p (kept r (kept (i + 1) p2)) (λ temporary. seen temporary ws p.marks i)
        (λ temporary. seen temporary ws (kept r (kept (i + 1) p2)).marks i) 2 0
    unfolding ershov
    both_stored plain =
        let first = left_stored in
        let blank = first.marks r (λ q. omega (arith, two_sides.order)) ∙ right_unmarked both_wide.1 in
        let second = side_stored t ready first.below (right_at two_sides) blank in
        let one_more : suc next ≡ next + 1 = omega arith in
        two_left t ready e x y both 2 plain chosen second.below.so
        (λ temporary. second.other temporary (i + 1) two_sides.left right_apart ∙ first.own temporary) second.own
        (λ temporary.
        let now = view temporary ws p2.marks in
        let store : ℕ → Tree → List Statement = λ k t. assign (temporary k) t ∷ [] in
        let stores = store next (now (i + 1)) ++ store (next + 1) (now r) in
        let read = second.read temporary
        ∙ ap₂ (λ (l : List Statement) (t : Tree). l ++ store (next + 1) t) (first.read temporary)
        (first.other temporary r two_sides.right left_apart)
        ∙ append_assoc (statements_of temporary ws p2.marks rows) (store next (now (i + 1))) (store (next + 1) (now r)) in
        rw one_more
        (result_same (omega arith) (ap (λ (l : List Statement). l ++ stores) (both_read t ready e x y temporary) ∙ sym read) refl))
        (λ temporary. refl) ready.scratch.0

  -- ---- as it was chosen

  pub store_ready : (how : Storing) → how ≡ storing h.scratch o a.ershov b.ershov → StoreReady how (i + 1) r p2
  store_ready how chosen =
      let spared = spare how chosen in
      record {
        order = two_sides.order;
        within = omega (arith, two_sides.right_within, t.few);
        few = omega (arith, spared.0, (sound_below t ready trimmed_below).long);
        room = spared.0;
        names = spared.1;
      }
    where
      spare : (how : Storing) → how ≡ storing h.scratch o a.ershov b.ershov →
          RoomFor p2.rows (p2.state.count + stores how) × (p2.state.next + stores how ≤ temporary_limit)
      spare both c = both_room (sym c)
      spare right c = (room_kept t ready trimmed_below, omega (arith, name_kept t ready trimmed_below))
      spare nothing c = (omega (arith, room_kept t ready trimmed_below), omega (arith, name_kept t ready trimmed_below))

  join_by : (how : Storing) → how ≡ storing h.scratch o a.ershov b.ershov → is_function2 o ≡ false →
      NodeTrimmed h ws n i p (stored how (i + 1) r p2) (plain_of (joined how a.ershov b.ershov))
  join_by nothing c plain = nothing_stored plain (sym c)
  join_by right c plain = right_stored (sym c) plain
  join_by both c plain = both_stored (sym c) plain

  pub join_trimmed : {how : Storing} {q : Progress} {k : ℕ} {z : Answer} → how ≡ storing h.scratch o a.ershov b.ershov →
      is_function2 o ≡ false → q ≡ stored how (i + 1) r p2 → k ≡ joined how a.ershov b.ershov → z ≡ plain_of k →
      NodeTrimmed h ws n i p q z
  join_trimmed {how} c plain put number answer = rw (put, answer, number) (join_by how c plain)
