-- Row after row: what is found among rows, and what a call comes to by it. Assumes nothing.
use mathlib.Core.Path.{◌≡◌, refl, sym, ap, ◌∙◌}
use mathlib.Core.Bool.{Bool, true, false, false≢true}
use mathlib.Core.List.{List, [], ◌∷◌}
use mathlib.Core.Logic.{◌≢◌}
use mathlib.Core.Option as maybe
use Prim.Native.Nat.{ℕ, zero, suc, ◌+◌, ◌-◌, ◌<◌, ◌≤◌}
use native.Mathlib.Omega.{arith}
use Rattle.std.proofs.Common.{Option, None, Some}
use Rattle.std.specs.Option.{option_or, SomeIff}
use lib.ListN.{get_or, set, length-set}
use Rattle.limits.specs.Limits.{temporary_limit}
use Rattle.limits.specs.Words.{word_of}
use Rattle.symbol.specs.declared.Loc.{Loc}
use Rattle.definitions.specs.Tree.{Tree}
use Rattle.definitions.specs.Same.{same}
use Rattle.definitions.specs.Statement.{Statement, assign, call, call_tree}
use Rattle.definitions.specs.Trim.{first_of, seek}
use Rattle.node.specs.Nodes.{end_at, Table}
use Rattle.node.specs.Views.{seen, Fresh}
use Rattle.node.proofs.Nodes.{equal_or}
use Rattle.statement.specs.declared.Row.{Row}
use Rattle.statement.specs.declared.Row.TheVariants.{Given, Copied, Kept, Passed, Made}
use Rattle.statement.specs.Rows.{RoomFor, HasLink, link_at, key_at, row_at, rows_from, row_statement, statements_of}
use Rattle.statement.specs.Rowing.{All}
use Rattle.statement.proofs.EveryRow.{all_one, all_row, rows_left, roots_map, named_up}
use Rattle.compare.specs.Comparison.{Comparable}
use Rattle.keys.specs.Keys.{SeenMix}
use Rattle.calls.specs.Index.{slot, key_of, LastOf, Keyed, Sought, SeekReady}
use Rattle.calls.specs.Progress.{Progress, rows_of}
use Rattle.calls.specs.Calls.{CallSought, CallFresh, CallFound, RowAsked}
use Rattle.calls.specs.Calls.{CallReady, with_call, with_heads, CallBroken, found, made}
use Rattle.calls.proofs.OneRow.{other_mix_misses, unmade_misses}
use Rattle.calls.proofs.Keying.{keyed_called}

-- ---- one statement before others

first_none : (b : Bool) (p : Loc) (z : maybe.Option Loc) → first_of b p maybe.none ≡ maybe.none → first_of b p z ≡ z
first_none true p z e = cc
first_none false p z e = refl

first_some : (b : Bool) (p q : Loc) (z : maybe.Option Loc) → first_of b p maybe.none ≡ maybe.some q → first_of b p z ≡ maybe.some q
first_some true p q z e = e
first_some false p q z e = cc

seek_later : (t : Tree) (s : Statement) (ss : List Statement) → seek t (s ∷ []) ≡ maybe.none → seek t (s ∷ ss) ≡ seek t ss
unfolding seek
seek_later t (assign p u) ss e = refl
seek_later t (call p c) ss e = first_none (same (call_tree c) t) p (seek t ss) e

seek_here : (t : Tree) (s : Statement) (q : Loc) (ss : List Statement) → seek t (s ∷ []) ≡ maybe.some q →
    seek t (s ∷ ss) ≡ maybe.some q
unfolding seek
seek_here t (assign p u) q ss e = cc
seek_here t (call p c) q ss e = first_some (same (call_tree c) t) p q (seek t ss) e

-- ---- one row before others

module _ {temporary : ℕ → Loc} {ws : List ℕ} {i : ℕ} {r : Row} {rows : List Row} (f : CallFresh temporary ws i (r ∷ rows)) where
  fresh_first : CallFresh temporary ws i (r ∷ [])
  unfolding All
  fresh_first = record { nodes = f.nodes; fresh = f.fresh; tree = f.tree; trees = (f.trees.0, tt) }

  fresh_rest : CallFresh temporary ws i rows
  unfolding All
  fresh_rest = record { nodes = f.nodes; fresh = f.fresh; tree = f.tree; trees = f.trees.1 }

found_first : {ws ms : List ℕ} {i : ℕ} {r : Row} {rows : List Row} (here later : Option ℕ) → CallFound ws ms i (r ∷ []) here →
    CallFound ws ms i rows later → CallFound ws ms i (r ∷ rows) (option_or here later)
unfolding All statements_of
found_first {ws} {ms} {i} {r} {rows} None later first rest =
    record {
      low = λ next h. rest.low next h.1;
      is = λ temporary f.
          seek_later (seen temporary ws ms i) (row_statement temporary ws ms r) (statements_of temporary ws ms rows)
          (first.is temporary (fresh_first f))
          ∙ rest.is temporary (fresh_rest f);
    }
found_first {ws} {ms} {i} {r} {rows} (Some k) later first rest =
    record {
      low = λ next h. first.low next (h.0, tt);
      is = λ temporary f.
          seek_here (seen temporary ws ms i) (row_statement temporary ws ms r) (temporary k) (statements_of temporary ws ms rows)
          (first.is temporary (fresh_first f));
    }

-- ---- the rows of a chain, from its last row on

sought_row : {ws : List ℕ} {i : ℕ} (rs : List Row) (count : ℕ) → CallSought ws i (rows_from rs 0 count) → (k : ℕ) →
    k < count →
    CallSought ws i (row_at rs k ∷ [])
sought_row rs count s k l =
    record {
      tree = s.tree;
      called = s.called;
      placed = all_one _ _ (all_row _ rs count k s.placed l);
      named = all_one _ _ (all_row _ rs count k s.named l);
    }

-- the rows from `high` on were looked at, with the answer so far, and the chain goes on with v
pub record Searched (ws ms : List ℕ) (rs : List Row) (i key count v : ℕ) (answer : Option ℕ) : Type 0 where
  pub asked : CallSought ws i (rows_from rs 0 count)
  pub by : Sought ws ms rs i count
  pub high : ℕ
  pub within : high ≤ count
  pub here : LastOf by.mix_at rs (slot by.mix) high v
  pub own : key ≡ key_of by.mix
  pub past : CallFound ws ms i (rows_from rs high (count - high)) answer

module _ {ws ms : List ℕ} {rs : List Row} {i key count v : ℕ} {answer : Option ℕ} (x : Searched ws ms rs i key count v answer) where
  abbrev by : Sought ws ms rs i count
  by = x.by

  -- a row with another mix makes another call, or none
  mix_misses : (j : ℕ) → j < count → by.mix_at j ≢ by.mix → CallFound ws ms i (row_at rs j ∷ []) None
  mix_misses j l apart = by_row (row_at rs j) refl
    where
      by_row : (r : Row) → row_at rs j ≡ r → CallFound ws ms i (row_at rs j ∷ []) None
      by_row (Given p b) e = unmade_misses ws ms i e tt
      by_row (Copied p k) e = unmade_misses ws ms i e tt
      by_row (Kept m b) e = unmade_misses ws ms i e tt
      by_row (Passed m k) e = unmade_misses ws ms i e tt
      by_row (Made m root link key) e =
          other_mix_misses (sought_row rs count x.asked j l) e ms (rw e at (by.mixed j l)) by.ours apart

  -- so does one that is not in the chain
  row_misses : (j : ℕ) → v ≤ j → j < x.high → CallFound ws ms i (row_at rs j ∷ []) None
  row_misses j a b =
      equal_or (slot (by.mix_at j)) (slot by.mix)
      (λ e. unmade_misses ws ms i refl (x.here.none j a b e))
      (λ e. mix_misses j (omega (arith, x.within)) (λ q. e (ap slot q)))

  -- so what was found is found among the rows from v on
  rows_past : (d w : ℕ) → v ≤ w → w + d ≡ x.high → CallFound ws ms i (rows_from rs w (count - w)) answer
  rows_past zero w a e = let q : w ≡ x.high = omega arith in rw q x.past
  rows_past (suc d) w a e =
      let l : w < count = omega (arith, x.within) in
      rw (rows_left rs count w l)
      (found_first None answer (row_misses w a (omega arith)) (rows_past d (w + 1) (omega arith) (omega arith)))

  pub searched_on : CallFound ws ms i (rows_from rs v (count - v)) answer
  searched_on = rows_past (x.high - v) v (omega arith) (omega (arith, x.here.below))

  -- the last row of the chain: what it says is put before the answer so far
  module _ (last : ℕ) (more : v ≡ last + 1) where
    pub chain_within : last < count
    chain_within = omega (arith, more, x.here.below, x.within)

    back : v - 1 ≡ last
    back = omega (arith, more)

    chain_linked : HasLink rs last
    chain_linked = rw back at (x.here.linked (omega (arith, more)))

    chain_goes : LastOf by.mix_at rs (slot by.mix) last (link_at rs last) × (key_at rs last ≡ key_of (by.mix_at last))
    chain_goes =
        let own : slot (by.mix_at last) ≡ slot by.mix = rw back at (x.here.own (omega (arith, more))) in
        rw own at (by.goes last chain_within chain_linked)

    pub chain_asked : RoomFor rs count → RowAsked ws ms rs i key last
    chain_asked room =
        record {
          room = omega (arith, chain_within, room);
          linked = chain_linked;
          sought = sought_row rs count x.asked last chain_within;
          apart = λ e. mix_misses last chain_within (λ q. e (chain_goes.1 ∙ ap key_of q ∙ sym x.own));
        }

    pub chain_falls : link_at rs last < v
    chain_falls = omega (arith, more, chain_goes.0.below)

    pub chain_next : {hit z : Option ℕ} {w : ℕ} → CallFound ws ms i (row_at rs last ∷ []) hit → z ≡ option_or hit answer →
        w ≡ link_at rs last → Searched ws ms rs i key count w z
    chain_next {hit} found-here ez ew =
        let up : last + 1 ≡ v = sym more in
        rw (ez, ew)
        record {
          asked = x.asked;
          by = by;
          high = last;
          within = omega (arith, chain_within);
          here = chain_goes.0;
          own = x.own;
          past = rw (rows_left rs count last chain_within, up) (found_first hit answer found-here searched_on);
        }

  pub chain_ends : v ≡ 0 → CallFound ws ms i (rows_from rs 0 count) answer
  chain_ends e = let z : count - 0 ≡ count = omega arith in rw z at (rw e at searched_on)

none_found : (ws ms : List ℕ) (i : ℕ) → CallFound ws ms i [] None
unfolding seek statements_of
none_found ws ms i = record { low = λ next h. tt; is = λ temporary f. refl }

pub search_starts : {ws ms : List ℕ} (rs : List Row) {i key : ℕ} (count : ℕ) {v : ℕ} → SeekReady ws ms rs i v key count →
    CallSought ws i (rows_from rs 0 count) → Searched ws ms rs i key count v None
unfolding rows_from
search_starts {ws} {ms} rs {i} count r s =
    let none_left : count - count ≡ 0 = omega arith in
    record {
      asked = s;
      by = r.by;
      high = count;
      within = omega arith;
      here = r.first;
      own = r.own;
      past = rw none_left (none_found ws ms i);
    }

-- ---- a link as an option

pub word_is : (r : Option ℕ) (m : ℕ) → SomeIff r (1 ≤ m) (m - 1) → word_of r ≡ m
word_is None m h = omega (arith, h)
word_is (Some k) m h = omega (arith, h.0, h.1)

-- ---- a call at a node of a table

module _ {sharing : Bool} {ws : List ℕ} {n i : ℕ} {p : Progress} (t : Table ws n) (ready : CallReady sharing ws n i p) where
  table_comparable : (b : ℕ) → b < n → Comparable ws b
  table_comparable b h = record { laid = t.laid b h; ends = omega (arith, t.whole b h, t.few) }

  pub ready_comparable : Comparable ws i
  ready_comparable = table_comparable i ready.within

  pub ready_sought : CallSought ws i (rows_of p)
  ready_sought =
      record {
        tree = ready_comparable;
        called = ready.called;
        placed = roots_map (λ b. b < n) (Comparable ws) table_comparable (rows_of p) ready.placed;
        named = named_up p.state.next temporary_limit (omega (arith, ready.low)) (rows_of p) ready.named;
      }

  ready_fresh : {temporary : ℕ → Loc} → Fresh temporary ws n → CallFresh temporary ws i (rows_of p)
  ready_fresh f =
      let whole = t.whole in
      record {
        nodes = n;
        fresh = f;
        tree = whole i ready.within;
        trees = roots_map (λ b. b < n) (λ b. end_at ws b ≤ n) whole (rows_of p) ready.placed;
      }

  -- with sharing off none is sought
  pub broken_off : {p' : Progress} {k : ℕ} → sharing ≡ false → k ≡ p.state.next → p' ≡ with_call p i 0 0 →
      CallBroken sharing ws n i p p' k
  broken_off off answer put =
      rw off (made 0 0 p.heads answer put (λ temporary f. refl) refl (λ e. absurd (false≢true e)))

  -- with sharing on it is, by its mix
  module _ (on : sharing ≡ true) {m at : ℕ} (ours : SeenMix ws p.marks i m) (e : at ≡ slot m) where
    keyed : Keyed ws p.marks p.rows p.heads p.state.count
    keyed = ready.indexed on

    pub chain_sought : {key : ℕ} → key ≡ key_of m → SeekReady ws p.marks p.rows i (get_or p.heads at 0) key p.state.count
    chain_sought k =
        rw e
        record {
          by = record { mix_at = keyed.mix_at; mixed = keyed.mixed; goes = keyed.goes; mix = m; ours = ours };
          first = keyed.starts (slot m) (omega arith);
          own = k;
        }

    pub chain_low : get_or p.heads at 0 ≤ p.state.count
    chain_low = rw e (keyed.starts (slot m) (omega arith)).below

    pub broken_found : {k : ℕ} → CallFound ws p.marks i (rows_of p) (Some k) → CallBroken sharing ws n i p p k
    broken_found h =
        rw on (found refl (h.low p.state.next ready.named) (λ temporary f. h.is temporary (ready_fresh f)))

    pub broken_made : {p' : Progress} {heads : List ℕ} {link key k : ℕ} → CallFound ws p.marks i (rows_of p) None → key ≡ key_of m →
        k ≡ p.state.next → link ≡ get_or p.heads at 0 → heads ≡ set p.heads at (p.state.count + 1) →
        p' ≡ with_call (with_heads p heads) i link key → CallBroken sharing ws n i p p' k
    broken_made {p' = p'} {heads = heads} {link = link} {key = key} h is answer linked begun put =
        rw on
        (made link key heads answer put (λ temporary f. h.is temporary (ready_fresh f))
        (rw begun (length-set p.heads at (p.state.count + 1)))
        (λ shared. rw (put, linked, begun, e, is) (keyed_called i m p.state.next ready.room ours keyed)))

-- a search along a chain
pub ruleset along_chain = (search_starts, chain_within, chain_falls, chain_next)
