-- Laws of trimming a sheet's statements, row after row. Assumes nothing.
use mathlib.Core.Path.{◌≡◌, refl, sym, ap, ap₂, ◌∙◌}
use mathlib.Core.Logic.{◌≢◌}
use mathlib.Core.List.{List, [], ◌∷◌, ◌++◌, append-nil}
use Prim.Native.Nat.{ℕ, ◌+◌, ◌-◌, ◌<◌, ◌≤◌}
use native.Mathlib.Omega.{arith}
use Rattle.std.proofs.Common.{Option}
use lib.ListN.{length, get_or}
use Rattle.limits.specs.Limits.{row_limit}
use Rattle.limits.specs.Words.{word_of}
use Rattle.symbol.specs.declared.Loc.{Loc}
use Rattle.calls.specs.declared.Settings.{Settings}
use Rattle.definitions.specs.Tree.{variable}
use Rattle.definitions.specs.Statement.{Statement, assign}
use Rattle.definitions.specs.Trim.{Trimmed, Trimming, trim, trim_all}
use Rattle.node.specs.Nodes.{end_at}
use Rattle.node.specs.Views.{masked, seen, Marked, Fresh, zeros}
use Rattle.node.proofs.Marks.{moves_marked}
use Rattle.statement.specs.declared.Row.{Row}
use Rattle.statement.specs.declared.Row.TheVariants.{Given, Copied, Kept, Passed, Made}
use Rattle.statement.specs.declared.State.{State}
use Rattle.statement.specs.Rows.{RoomFor, row_at, rows_from, row_statement, statements_of}
use Rattle.statement.specs.Rowing.{All, OnRoot, OnGiven, Unmade, NumberedBelow, spend, spent}
use Rattle.statement.specs.Handover.{Owned, Unmarked, SheetEliminated, SheetTrimmed}
use Rattle.statement.proofs.RowsPut.{statements_append}
use Rattle.calls.proofs.Keying.{keyed_none}
use Rattle.calls.specs.Progress.{Progress, progress, with_row, rows_of}
use Rattle.trim.specs.Trimming.{InScratch, read_of, Sound, TrimReady}
use Rattle.trim.specs.Sheet.{closed, OnPart, RowToTrim, RootTrimmed, PartTrimmed, RowTrimmed}
use Rattle.statement.proofs.EveryRow.{all_none, all_one, all_append, root_map, root_both, given_both, below_up, statements_first}
use Rattle.trim.proofs.StillRows.{still_statements}
use Rattle.statement.proofs.RowsSpent.{row_spends, spent_first}
use Rattle.trim.proofs.Gathering.{sound_since, sound_put, long_put, table_put}
use Rattle.trim.proofs.Closing.{TreeRow, given_row, kept_row, VariableRow, copied_row, passed_row}
use Rattle.trim.proofs.Untouched.{Untouched, untouched_seen, untouched_still, untouched_since, root_untouched}
use Rattle.trim.proofs.Untouched.{rows_untouched, blank_stays, Begins, begins_with, begins_after}

-- a root that is yet to be trimmed: seen as at first, it leaves the rows so far
pub record Ahead (ws ms₀ : List ℕ) (n : ℕ) (p : Progress) (i : ℕ) : Type 0 where
  pub within : i < n
  pub owned : Owned ws p.marks i
  pub same : (temporary : ℕ → Loc) → seen temporary ws p.marks i ≡ seen temporary ws ms₀ i
  pub safe : All (OnRoot (Untouched ws p.marks i)) (rows_of p)

-- k of the rows er are trimmed
pub record TrimmedSoFar (h : Settings) (ws ms₀ : List ℕ) (er : List Row) (n : ℕ) (s₀ : State) (p : Progress) (k : ℕ) :
    Type 0 where
  pub sound : Sound h ws n p
  pub room : RoomFor p.rows (p.state.count + zeros p.marks n + spent (rows_from er k (s₀.count - k)))
  pub onward : s₀.next ≤ p.state.next
  pub ahead : (j : ℕ) → k ≤ j → j < s₀.count → OnRoot (Ahead ws ms₀ n p) (row_at er j)
  pub blank : (j : ℕ) → k ≤ j → j < s₀.count → OnGiven (λ i. get_or p.marks i 0 ≡ 0) (row_at er j)
  pub trimmed : (temporary : ℕ → Loc) → Fresh temporary ws n →
      trim_all h.sharing h.scratch temporary s₀.next [] (statements_of temporary ws ms₀ (rows_from er 0 s₀.count))
      ≡ trim_all h.sharing h.scratch temporary p.state.next (read_of temporary ws p)
      (statements_of temporary ws ms₀ (rows_from er k (s₀.count - k)))

module _ {h : Settings} {ws ms₀ : List ℕ} {er : List Row} {n : ℕ} {s₀ : State} (d : SheetEliminated ws ms₀ er n s₀) where
  pub trimmed_first : (rs : List Row) {hs : List ℕ} → RoomFor rs (spent (rows_from er 0 s₀.count) + zeros ms₀ n) →
      length rs ≤ row_limit → Unmarked hs →
      TrimmedSoFar h ws ms₀ er n s₀ (progress ms₀ rs hs (record { next = s₀.next; count = 0 })) 0
  unfolding rows_from statements_of
  trimmed_first rs {hs} room l blank =
      let z : s₀.count - 0 ≡ s₀.count = omega arith in
      record {
        sound =
            record {
              wide = d.wide;
              long = l;
              chains = blank.wide;
              numbered = omega (arith, d.low);
              small = d.small;
              placed = all_none _;
              named = all_none _;
              findable = λ on. keyed_none ws ms₀ rs blank.wide blank.blank;
            };
        room = rw z (omega arith);
        onward = omega arith;
        ahead = λ j a b.
            root_both _ _ _ (λ i x y. record { within = x; owned = y; same = λ temporary. refl; safe = all_none _ }) (row_at er j)
            (d.placed j b) (d.owned j b);
        blank = λ j a b. d.unmarked j b;
        trimmed = λ temporary f. rw z refl;
      }

  module _ {p : Progress} {k : ℕ} (g : TrimmedSoFar h ws ms₀ er n s₀ p k) where
    pub trimmed_last : {ms' : List ℕ} {rs' : List Row} → s₀.count ≤ k → ms' ≡ p.marks → rs' ≡ p.rows →
        SheetTrimmed h.sharing h.scratch ws ms₀ ms' er rs' n s₀ p.state
    unfolding rows_from statements_of trim_all
    trimmed_last l marks rows =
        let z : s₀.count - k ≡ 0 = omega arith in
        let few : p.state.count ≤ row_limit = omega (arith, g.room, g.sound.long) in
        rw (marks, rows)
        record {
          trimmed = λ temporary f.
              g.trimmed temporary f
              ∙ ap (λ (c : ℕ). trim_all h.sharing h.scratch temporary p.state.next (read_of temporary ws p)
              (statements_of temporary ws ms₀ (rows_from er k c))) z;
          wide = g.sound.wide;
          long = omega (arith, g.room);
          few = few;
          low = omega (arith, g.sound.numbered);
          small = g.sound.small;
          named = g.sound.named;
          placed = g.sound.placed;
        }

    module _ {row : Row} (l : k < s₀.count) (u : row ≡ row_at er k) where
      abbrev later : List Row
      later = rows_from er (k + 1) (s₀.count - (k + 1))

      room_now : RoomFor p.rows (p.state.count + zeros p.marks n + spend row + spent later)
      room_now = rw u (omega (arith, g.room, spent_first er s₀.count k l))

      -- ---- what row k may count on

      part_ready : InScratch h → (lo i : ℕ) → Begins p.marks lo i → Ahead ws ms₀ n p i →
          RoomFor p.rows (p.state.count + zeros p.marks n + 1) → TrimReady h ws n lo i p
      part_ready scratch lo i begins a room =
          record {
            within = a.within;
            scratch = scratch;
            sound = g.sound;
            counted = room;
            steady = λ ms' m temporary. untouched_still d.table begins m temporary (rows_of p) g.sound.placed a.safe;
          }

      parts_ready : InScratch h → (r : Row) → OnRoot (Ahead ws ms₀ n p) r → OnGiven (λ i. get_or p.marks i 0 ≡ 0) r →
          RoomFor p.rows (p.state.count + zeros p.marks n + spend r) → OnPart (λ lo i. TrimReady h ws n lo i p) r
      parts_ready scratch (Given q i) a z room = part_ready scratch i i (begins_with z) a (omega arith)
      parts_ready scratch (Copied q j) a z room = tt
      parts_ready scratch (Kept m i) a z room = part_ready scratch (i + 1) i (begins_after p.marks i) a (omega arith)
      parts_ready scratch (Passed m j) a z room = tt
      parts_ready scratch (Made m i link key) a z room = tt

      pub row_ready : InScratch h → RowToTrim h ws n p row
      row_ready scratch =
          let room : RoomFor p.rows (p.state.count + zeros p.marks n + spend row) = omega (arith, room_now) in
          let ahead : OnRoot (Ahead ws ms₀ n p) row = rw u (g.ahead k (omega arith) l) in
          let blank : OnGiven (λ i. get_or p.marks i 0 ≡ 0) row = rw u (g.blank k (omega arith) l) in
          record { long = g.sound.long; room = room; part = parts_ready scratch row ahead blank room; blank = blank }

      first_row : (temporary : ℕ → Loc) → statements_of temporary ws ms₀ (rows_from er k (s₀.count - k))
          ≡ row_statement temporary ws ms₀ row ∷ statements_of temporary ws ms₀ later
      first_row temporary = rw u (statements_first temporary ws ms₀ er s₀.count k l)

      -- ---- a row with a root

      module _ {lo i : ℕ} {m : Progress} {t : Option ℕ} (f : TreeRow row i) (begins : Begins p.marks lo i)
          (low : NumberedBelow s₀.next row) (x : RootTrimmed h ws n lo i p m row t) where
        abbrev new : List Row
        new = x.tree.rows

        abbrev put : Row
        put = closed row t

        abbrev p' : Progress
        p' = with_row m put

        at_root : (P : ℕ → Type 0) → OnRoot P (row_at er k) → P i
        at_root P a = f.out P (rw u a)

        here : Ahead ws ms₀ n p i
        here = at_root (Ahead ws ms₀ n p) (g.ahead k (omega arith) l)

        sound_middle : Sound h ws n m
        sound_middle = sound_since x.tree.so g.sound

        room_middle : RoomFor m.rows (m.state.count + 1)
        room_middle = omega (arith, x.cost, x.tree.so.long, room_now)

        table' : rows_of p' ≡ rows_of m ++ (put ∷ [])
        table' = table_put m put room_middle

        sound' : Sound h ws n p'
        sound' =
            let up : s₀.next ≤ m.state.next = omega (arith, g.onward, x.tree.so.onward) in
            sound_put m put sound_middle room_middle (f.unmade t) (f.root t _ here.within)
            (f.low t _ x.mark (below_up _ _ up row low))

        -- a root to come
        to_come : (j : ℕ) → k < j → j < s₀.count → OnRoot (λ y. Ahead ws ms₀ n p y × (i ≢ y)) (row_at er j)
        to_come j a b =
            root_both _ _ _ (λ y q r. (q, r)) (row_at er j) (g.ahead j (omega arith) b)
            (at_root (λ x. OnRoot (λ y. x ≢ y) (row_at er j)) (d.distinct k j a b))

        marked' : (j : ℕ) → Marked p.marks j → Marked m.marks j
        marked' = moves_marked ws p.marks m.marks lo (end_at ws i) x.tree.so.moves

        read' : (temporary : ℕ → Loc) → read_of temporary ws p'
            ≡ (read_of temporary ws p ++ statements_of temporary ws m.marks new)
            ++ (assign (f.place temporary) (masked temporary (word_of t) (seen temporary ws m.marks i)) ∷ [])
        unfolding statements_of
        read' temporary =
            ap (statements_of temporary ws m.marks) table' ∙ statements_append temporary ws m.marks (rows_of m) (put ∷ [])
            ∙ ap₂ (λ (a : List Statement) (s : Statement). a ++ (s ∷ []))
            (ap (statements_of temporary ws m.marks) x.tree.so.table
            ∙ statements_append temporary ws m.marks (rows_of p) new
            ∙ ap (λ (a : List Statement). a ++ statements_of temporary ws m.marks new)
            (still_statements temporary ws p.marks m.marks (rows_of p)
            (untouched_still d.table begins x.tree.so.moves temporary (rows_of p) g.sound.placed here.safe)))
            (f.shut t temporary ws m.marks)

        trimmed' : (temporary : ℕ → Loc) → Fresh temporary ws n →
            trim_all h.sharing h.scratch temporary s₀.next [] (statements_of temporary ws ms₀ (rows_from er 0 s₀.count))
            ≡ trim_all h.sharing h.scratch temporary m.state.next (read_of temporary ws p')
            (statements_of temporary ws ms₀ later)
        unfolding trim_all
        trimmed' temporary fresh =
            let sofar = read_of temporary ws p in
            let rest = statements_of temporary ws ms₀ later in
            let trims = trim_all h.sharing h.scratch temporary in
            let goes : Trimmed → Trimming =
            λ y. trims y.next ((sofar ++ y.before) ++ (assign (f.place temporary) y.tree ∷ [])) rest in
            let first = f.whole temporary ws ms₀ ∙ ap (assign (f.place temporary)) (sym (here.same temporary)) in
            g.trimmed temporary fresh
            ∙ ap (trims p.state.next sofar) (first_row temporary ∙ ap (λ (z : Statement). z ∷ rest) first)
            ∙ ap goes (x.tree.trimmed temporary fresh)
            ∙ ap (λ (a : List Statement). trims m.state.next a rest) (sym (read' temporary))

        safe' : (y : ℕ) → Ahead ws ms₀ n p y → i ≢ y → All (OnRoot (Untouched ws m.marks y)) (rows_of p')
        safe' y a ne =
            rw table'
            (untouched_since ws p.marks m.marks y marked' _
            (all_append _ (rows_of m) _
            (rw x.tree.so.table
            (all_append _ (rows_of p) new a.safe
            (rows_untouched ws p.marks n ne here.owned a.owned new x.tree.so.inside
            (λ z b. x.tree.so.free z (omega (arith, begins.most))))))
            (all_one _ put (f.root t _ (root_untouched ws p.marks n ne here.owned a.owned here.within)))))

        ahead' : (y : ℕ) → Ahead ws ms₀ n p y × (i ≢ y) → Ahead ws ms₀ n p' y
        ahead' y q =
            let a = q.0 in
            let other : y ≢ i = λ z. q.1 (sym z) in
            record {
              within = a.within;
              owned = λ z b c. marked' y (a.owned z b c);
              same = λ temporary.
                  untouched_seen d.table begins x.tree.so.moves temporary y a.within
                  (root_untouched ws p.marks n other a.owned here.owned a.within)
                  ∙ a.same temporary;
              safe = safe' y a q.1;
            }

        root_trimmed : TrimmedSoFar h ws ms₀ er n s₀ p' (k + 1)
        root_trimmed =
            record {
              sound = sound';
              room = omega (arith, x.cost, x.tree.so.long, long_put m put, room_now);
              onward = omega (arith, g.onward, x.tree.so.onward);
              ahead = λ j a b. root_map _ _ ahead' (row_at er j) (to_come j (omega arith) b);
              blank = λ j a b.
                  given_both _ _ _ (λ y z q. blank_stays d.table begins x.tree.so.moves y q.1 q.0.owned z) (row_at er j)
                  (g.blank j (omega arith) b) (to_come j (omega arith) b);
              trimmed = trimmed';
            }

      -- ---- a row without one

      module _ (f : VariableRow row) (low : NumberedBelow s₀.next row) where
        room_copied : RoomFor p.rows (p.state.count + 1)
        room_copied = omega (arith, room_now, row_spends row)

        abbrev copied : Progress
        copied = with_row p row

        table_copied : rows_of copied ≡ rows_of p ++ (row ∷ [])
        table_copied = table_put p row room_copied

        trimmed_copied : (temporary : ℕ → Loc) → Fresh temporary ws n →
            trim_all h.sharing h.scratch temporary s₀.next [] (statements_of temporary ws ms₀ (rows_from er 0 s₀.count))
            ≡ trim_all h.sharing h.scratch temporary p.state.next
            (read_of temporary ws copied) (statements_of temporary ws ms₀ later)
        unfolding trim_all trim statements_of
        trimmed_copied temporary fresh =
            let sofar = read_of temporary ws p in
            let rest = statements_of temporary ws ms₀ later in
            let trims = trim_all h.sharing h.scratch temporary p.state.next in
            let copy = assign (f.place temporary) (variable (f.source temporary)) in
            g.trimmed temporary fresh
            ∙ ap (trims sofar) (first_row temporary ∙ ap (λ (z : Statement). z ∷ rest) (f.whole temporary ws ms₀))
            ∙ ap (λ (a : List Statement). trims (a ++ (copy ∷ [])) rest) (append-nil sofar)
            ∙ ap (λ (a : List Statement). trims a rest)
            (sym (ap (statements_of temporary ws p.marks) table_copied
            ∙ statements_append temporary ws p.marks (rows_of p) (row ∷ [])
            ∙ ap (λ (z : Statement). sofar ++ (z ∷ [])) (f.whole temporary ws p.marks)))

        row_copied : TrimmedSoFar h ws ms₀ er n s₀ copied (k + 1)
        row_copied =
            record {
              sound = sound_put p row g.sound room_copied f.unmade (f.root _) (below_up _ _ g.onward row low);
              room = omega (arith, room_now, long_put p row, row_spends row);
              onward = g.onward;
              ahead = λ j a b.
                  root_map _ _
                  (λ y q.
                  record {
                    within = q.within;
                    owned = q.owned;
                    same = q.same;
                    safe = rw table_copied (all_append _ (rows_of p) _ q.safe (all_one _ row (f.root _)));
                  }) (row_at er j) (g.ahead j (omega arith) b);
              blank = λ j a b. g.blank j (omega arith) b;
              trimmed = trimmed_copied;
            }

    -- ---- any row

    module _ (m : Progress) (t : Option ℕ) (l : k < s₀.count) where
      row_by : (row : Row) → row ≡ row_at er k → Unmade row → NumberedBelow s₀.next row →
          OnGiven (λ i. get_or p.marks i 0 ≡ 0) row → PartTrimmed h ws n p m row t →
          TrimmedSoFar h ws ms₀ er n s₀ (with_row m (closed row t)) (k + 1)
      row_by (Given q i) u a low z x = root_trimmed l u (given_row q i) (begins_with z) low x
      row_by (Copied q j) u a low z x = rw (x.same, x.none) (row_copied l u (copied_row q j) low)
      row_by (Kept m i) u a low z x = root_trimmed l u (kept_row m i) (begins_after p.marks i) low x
      row_by (Passed m j) u a low z x = rw (x.same, x.none) (row_copied l u (passed_row m j) low)
      row_by (Made m i link key) u a low z x = absurd a

    pub trimmed_on : (l : k < s₀.count) {p' : Progress} (row : Row) → row ≡ row_at er k → RowTrimmed h ws n p p' row →
        TrimmedSoFar h ws ms₀ er n s₀ p' (k + 1)
    trimmed_on l row u x =
        rw x.put (row_by x.middle x.temporary l row u (rw u (d.unmade k l)) (rw u (d.named k l)) (rw u (g.blank k (omega arith) l)) x.part)
