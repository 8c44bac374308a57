-- Laws of a side that is stored in a temporary: what is gathered, how it is read, and what stands for it then. Assumes nothing.
use mathlib.Core.Path.{◌≡◌, sym, ap, ap₂, ◌∙◌}
use mathlib.Core.Logic.{◌≢◌}
use mathlib.Core.List.{List, [], ◌∷◌, ◌++◌, append_assoc}
use Prim.Native.Nat.{ℕ, ◌+◌, ◌<◌, ◌≤◌}
use native.Mathlib.Omega.{arith}
use lib.ListN.{length, get_or, set, length-set}
use lib.Seq.{get_or-set_same, get_or-set_other}
use Rattle.limits.specs.Limits.{depth_limit, temporary_limit}
use Rattle.symbol.specs.declared.Loc.{Loc}
use Rattle.calls.specs.declared.Settings.{Settings}
use Rattle.definitions.specs.Tree.{Tree, variable}
use Rattle.definitions.specs.Statement.{Statement, assign}
use Rattle.node.specs.Nodes.{end_at, Laid, Table}
use Rattle.node.specs.Views.{masked, seen, view, Marked, Moves, Outside}
use Rattle.node.proofs.Nodes.{equal_or, laid_end, nested}
use Rattle.node.proofs.Views.{seen_frame, view_frame, view_unmarked}
use Rattle.node.proofs.Marks.{moves_marked}
use Rattle.statement.specs.declared.Row.{Row}
use Rattle.statement.specs.declared.Row.TheVariants.{Kept}
use Rattle.statement.specs.Rows.{RoomFor, statements_of}
use Rattle.statement.specs.Rowing.{All, OnRoot}
use Rattle.statement.proofs.RowsPut.{statements_append}
use Rattle.statement.proofs.EveryRow.{all_one, all_append, roots_both, named_up}
use Rattle.calls.proofs.Keying.{keyed_still, keyed_put}
use Rattle.trim.specs.Rowing.{InTree, Still}
use Rattle.calls.specs.Progress.{Progress, rows_of}
use Rattle.trim.specs.Trimming.{Sound, TrimReady, Gathered}
use Rattle.trim.specs.Joining.{kept}
use Rattle.trim.proofs.StillRows.{still_statements, still_since}
use Rattle.statement.proofs.NodesUnmarked.{bare_marked, zeros_set}
use Rattle.trim.proofs.Calling.{masked_marked}
use Rattle.trim.proofs.Gathering.{TwoSided, long_put, table_put, sound_since}

-- ---- where a side is

-- node j begins a side of node i: no tree below i reaches over it
pub record SideAt (ws : List ℕ) (n i j : ℕ) : Type 0 where
  pub after : i < j
  pub within : j < n
  pub ends : end_at ws j ≤ end_at ws i
  pub laid : Laid depth_limit ws j
  pub border : (y : ℕ) → i < y → y < j → end_at ws y ≤ j

module _ {ws : List ℕ} {n i r : ℕ} (two : TwoSided ws n i r) where
  pub left_at : SideAt ws n i (i + 1)
  left_at =
      record {
        after = omega arith;
        within = two.left_within;
        ends = omega (arith, two.meet, two.last, two.ends);
        laid = two.left;
        border = λ y a b. absurd (omega arith);
      }

  pub right_at : SideAt ws n i r
  right_at =
      let meet = two.meet in
      record {
        after = omega (arith, two.order);
        within = two.right_within;
        ends = omega (arith, two.ends);
        laid = two.right;
        border = λ y a b. omega (arith, nested ws depth_limit (i + 1) y two.left (omega arith) (omega arith));
      }

-- ---- one side is stored

-- what was gathered below node i since p: no row has the node itself for its root
pub record Below (h : Settings) (ws : List ℕ) (n i : ℕ) (p q : Progress) (rows : List Row) : Type 0 where
  pub so : Gathered h ws n (i + 1) i p q 0 rows
  pub under : All (OnRoot (λ b. i < b)) rows

-- the tree of node j was stored since q
pub record Stored (h : Settings) (ws : List ℕ) (n i j : ℕ) (p q : Progress) (rows : List Row) : Type 0 where
  pub below : Below h ws n i p (kept j q) (rows ++ (Kept q.state.next j ∷ []))
  pub marks : (k : ℕ) → k ≢ j → get_or (kept j q).marks k 0 ≡ get_or q.marks k 0
  -- the row is read as the tree
  pub read : (temporary : ℕ → Loc) → statements_of temporary ws (kept j q).marks (rows ++ (Kept q.state.next j ∷ []))
      ≡ statements_of temporary ws q.marks rows ++ (assign (temporary q.state.next) (view temporary ws q.marks j) ∷ [])
  -- a temporary stands for the node, and a tree that it is not in stays
  pub own : (temporary : ℕ → Loc) → view temporary ws (kept j q).marks j ≡ variable (temporary q.state.next)
  pub other : (temporary : ℕ → Loc) (k : ℕ) → Laid depth_limit ws k → Outside ws k j →
      view temporary ws (kept j q).marks k ≡ view temporary ws q.marks k

module _ {h : Settings} {ws : List ℕ} {n i : ℕ} {p q : Progress} {rows : List Row} (t : Table ws n)
    (ready : TrimReady h ws n (i + 1) i p)
    (below : Below h ws n i p q rows) where
  pub sound_below : Sound h ws n q
  sound_below = sound_since below.so ready.sound

  -- there is room for one more row, and a number for its temporary
  pub room_kept : RoomFor q.rows (q.state.count + 1)
  room_kept = omega (arith, below.so.counted, below.so.long, ready.counted)

  pub name_kept : q.state.next < temporary_limit
  name_kept = omega (arith, sound_below.numbered, sound_below.long, room_kept)

  module _ {j : ℕ} (side : SideAt ws n i j) (z : get_or q.marks j 0 ≡ 0) where
    abbrev next : ℕ
    next = q.state.next

    abbrev marks' : List ℕ
    marks' = set q.marks j (next + 1)

    here : j < length q.marks
    here = omega (arith, sound_below.wide, side.within, t.few)

    mark_now : get_or marks' j 0 ≡ next + 1
    mark_now = get_or-set_same q.marks j (next + 1) 0 here

    mark_other : (k : ℕ) → k ≢ j → get_or marks' k 0 ≡ get_or q.marks k 0
    mark_other k ne = get_or-set_other q.marks j k (next + 1) 0 ne

    small_kept : (k : ℕ) → get_or marks' k 0 ≤ next + 1
    small_kept k =
        equal_or k j (λ e. omega (arith, ap (λ (x : ℕ). get_or marks' x 0) e, mark_now))
        (λ e. omega (arith, mark_other k e, below.so.small k))

    -- it had no mark, and no tree whose root had one is around it
    unmarked_first : (y : ℕ) → Marked p.marks y → y ≢ j
    unmarked_first y m e =
        moves_marked ws p.marks q.marks (i + 1) (end_at ws i) below.so.moves y m
        (ap (λ (x : ℕ). get_or q.marks x 0) e ∙ z)

    apart : (y : ℕ) → i + 1 ≤ y → Marked p.marks y → Outside ws y j
    apart y a m u v =
        let ne = unmarked_first y m in
        omega (arith, ne, side.border y (omega arith) (omega (arith, ne)))

    moves_kept : Moves ws p.marks marks' (i + 1) (end_at ws i)
    moves_kept =
        let m = below.so.moves in
        let last = laid_end ws depth_limit j side.laid in
        record {
          below = λ k l. mark_other k (λ e. omega (arith, side.after)) ∙ m.below k l;
          above = λ k l. mark_other k (λ e. omega (arith, side.ends)) ∙ m.above k l;
          grown = λ k c. mark_other k (unmarked_first k c) ∙ m.grown k c;
          dead = λ y k a b c d f. mark_other k (λ e. apart y a c (omega arith) (omega arith)) ∙ m.dead y k a b c d f;
        }

    -- the rows so far are read as before
    rows_still : (temporary : ℕ → Loc) → Still temporary ws q.marks marks' rows
    rows_still temporary =
        roots_both (λ b. i < b) (InTree ws n i) (λ b. seen temporary ws marks' b ≡ seen temporary ws q.marks b)
        (λ b u k.
        seen_frame temporary ws q.marks marks' b (t.laid b k.1)
        (λ m l v. mark_other m (λ e. omega (arith, side.border b u (omega arith)))))
        rows below.under below.so.inside

    all_still : (temporary : ℕ → Loc) → Still temporary ws q.marks marks' (rows_of q)
    all_still temporary =
        let before = ready.steady q.marks below.so.moves temporary in
        let after = ready.steady marks' moves_kept temporary in
        rw below.so.table
        (all_append _ (rows_of p) rows (still_since temporary ws p.marks q.marks marks' (rows_of p) before after)
        (rows_still temporary))

    abbrev row : Row
    row = Kept next j

    gathers_kept : Gathered h ws n (i + 1) i p (kept j q) 0 (rows ++ (row ∷ []))
    gathers_kept =
        let g = below.so in
        record {
          moves = moves_kept;
          counted =
              omega (
                arith,
                bare_marked (next + 1) (omega arith),
                zeros_set q.marks n j (next + 1) side.within here z,
                g.counted,
              );
          numbered = omega (arith, g.numbered);
          onward = omega (arith, g.onward);
          wide = length-set q.marks j (next + 1) ∙ g.wide;
          long = long_put q row ∙ g.long;
          chains = g.chains;
          small = small_kept;
          mark = omega arith;
          table =
              table_put q row room_kept ∙ ap (λ (x : List Row). x ++ (row ∷ [])) g.table
              ∙ append_assoc (rows_of p) rows (row ∷ []);
          inside = all_append _ rows _ g.inside (all_one _ row (omega (arith, side.after), side.within, side.ends));
          named = all_append _ rows _ (named_up next (next + 1) (omega arith) rows g.named) (all_one _ row (omega arith));
          free = λ y u v m. all_append _ rows _ (g.free y u v m) (all_one _ row (apart y u m));
          findable = λ on. keyed_put q.rows q.state.count row tt room_kept (keyed_still marks' all_still (g.findable on));
        }

    read_kept : (temporary : ℕ → Loc) → statements_of temporary ws marks' (rows ++ (row ∷ []))
        ≡ statements_of temporary ws q.marks rows ++ (assign (temporary next) (view temporary ws q.marks j) ∷ [])
    unfolding statements_of
    read_kept temporary =
        let inner = seen_frame temporary ws q.marks marks' j side.laid (λ k u v. mark_other k (λ e. omega arith)) in
        statements_append temporary ws marks' rows (row ∷ [])
        ∙ ap₂ (λ (l : List Statement) (t : Tree). l ++ (assign (temporary next) t ∷ []))
        (still_statements temporary ws q.marks marks' rows (rows_still temporary))
        (inner ∙ sym (view_unmarked temporary ws q.marks j z))

    pub side_stored : Stored h ws n i j p q rows
    side_stored =
        record {
          below =
              record {
                so = gathers_kept;
                under = all_append _ rows _ below.under (all_one _ row side.after);
              };
          marks = mark_other;
          read = read_kept;
          own = λ temporary.
              ap (λ (m : ℕ). masked temporary m (seen temporary ws marks' j)) mark_now
              ∙ masked_marked temporary (seen temporary ws marks' j) next;
          other = λ temporary k laid out.
              view_frame temporary ws q.marks marks' k laid (λ m u v. mark_other m (λ e. out (omega arith) (omega arith)));
        }
