-- Statement after statement, the marks by node, and what the first pass hands over. Assumes nothing.
use mathlib.Core.Path.{◌≡◌, ◌∙◌}
use mathlib.Core.Bool.{true}
use mathlib.Core.List.{List, []}
use Prim.Native.Nat.{ℕ, zero, suc, ◌+◌, ◌<◌}
use native.Mathlib.Omega.{arith}
use lib.ListN.{length}
use Rattle.definitions.specs.Same.{among}
use Rattle.definitions.specs.Eliminate.{Walk, walk, walk_all, texts_of, find}
use Rattle.node.specs.Marks.{mark_of}
use Rattle.node.specs.Nodes.{tree}
use Rattle.statement.specs.declared.Row.{Row}
use Rattle.statement.specs.Rows.{root_at, sheet_from}
use Rattle.statement.specs.Handover.{SheetHeld}
use Rattle.statement.proofs.NodesUnmarked.{zeros_most}
use Rattle.numbers.specs.Filled.{at}
use Rattle.share.specs.Sharing.{Met, Unmet, Noted, Walked, NodesMarked, Shares}
use Rattle.share.proofs.TextsTwice.{texts_twice}

abbrev unmet : Walk
unmet = record { met = []; texts = [] }

-- the last of some statements is walked last
walk_last : (ws : List ℕ) (rows : List Row) (j count : ℕ) (w : Walk) →
    walk_all (sheet_from ws rows j (count + 1)) w ≡ walk (tree ws (root_at rows (j + count))) (walk_all (sheet_from ws rows j count) w)
unfolding walk_all sheet_from
walk_last ws rows j zero w = let e : j + 0 ≡ j = omega arith in rw e
walk_last ws rows j (suc count) w =
    let e : suc count + 1 ≡ suc (count + 1) = omega arith in
    let f : j + suc count ≡ j + 1 + count = omega arith in
    rw (e, f) (walk_last ws rows (j + 1) count (walk (tree ws (root_at rows j)) w))

-- so many statements are walked
abbrev pub SheetWalked : (ws cs : List ℕ) (rows : List Row) (n j : ℕ) (m m' : Met) → Type 0
SheetWalked ws cs rows n j m m' = Walked ws cs n (walk_all (sheet_from ws rows 0 j)) m m'

pub walked_none : {ws cs : List ℕ} (rows : List Row) {n : ℕ} {m : Met} → Unmet n m → SheetWalked ws cs rows n 0 m m
unfolding walk_all sheet_from
walked_none rows {n} {m} u =
    record {
      fits =
          record {
            classes = u.room;
            marks = u.marks.wide;
            places = u.places;
            room = omega (arith, u.none, zeros_most m.marks n);
            past = λ i l. u.marks.blank i;
          };
      noted = λ w h. h;
    }

pub walked_more : {ws cs : List ℕ} (rows : List Row) {n : ℕ} (j : ℕ) {m m1 m2 : Met} → SheetWalked ws cs rows n j m m1 →
    Walked ws cs n (walk (tree ws (root_at rows j))) m1 m2 → SheetWalked ws cs rows n (j + 1) m m2
walked_more {ws} rows j g more =
    let z : 0 + j ≡ j = omega arith in
    record {
      fits = more.fits;
      noted = λ w h. rw (walk_last ws rows 0 j w, z) (more.noted (walk_all (sheet_from ws rows 0 j) w) (g.noted w h));
    }

-- 'The marks of the 1,024 nodes start out unmet'
start_noted : (ws cs : List ℕ) (n : ℕ) {m : Met} → Unmet n m → Noted ws cs n m unmet
unfolding among find mark_of
start_noted ws cs n u =
    record {
      met = λ i l. u.classes (at cs i);
      given = λ i l. u.marks.blank (at cs i);
      count = u.none;
      nodes = λ t h. absurd (omega (arith, u.none));
      trees = λ t h. absurd (omega (arith, u.none));
      own = λ t h. absurd (omega (arith, u.none));
    }

-- all statements walked, and all nodes marked
module _ {ws cs : List ℕ} {rows : List Row} {n count : ℕ} {m m' : Met} {sh : List ℕ} (s : SheetHeld ws rows n count) (u : Unmet n m)
    (g : SheetWalked ws cs rows n count m m') (settled : NodesMarked cs m'.marks n sh) where
  noted : Noted ws cs n m' (walk_all (sheet_from ws rows 0 count) unmet)
  noted = g.noted unmet (start_noted ws cs n u)

  pub walked_shares : Shares ws rows n count sh m'.texts m'.next
  unfolding texts_of
  walked_shares =
      let texts = texts_of true (sheet_from ws rows 0 count) in
      let marks : (i : ℕ) → i < n → at sh i ≡ mark_of texts (tree ws i) = λ i l. settled.marks i l ∙ noted.given i l in
      let nodes : (t : ℕ) → t < length texts → at m'.texts t < n = λ t l. noted.nodes t (omega (arith, noted.count)) in
      record {
        count = noted.count;
        shared =
            record {
              table = s.table;
              wide = settled.wide;
              marks = marks;
              past = λ i l. settled.past i l ∙ g.fits.past i l;
              few = omega (arith, noted.count, g.fits.room, s.table.few);
              nodes = nodes;
              trees = λ t l. noted.trees t (omega (arith, noted.count));
              twice = texts_twice s sh m'.texts marks nodes
                  (λ t l. settled.marks (at m'.texts t) (nodes t l) ∙ noted.own t (omega (arith, noted.count)));
            };
      }
