-- Chains of calls, as rows are put and marks change. Assumes nothing.
use mathlib.Core.Path.{◌≡◌, refl, sym, ap, ◌∙◌}
use mathlib.Core.Bool.{cond}
use mathlib.Core.List.{List}
use Prim.Native.Nat.{ℕ, ◌+◌, ◌-◌, ◌<◌, ◌≤◌}
use native.Mathlib.Omega.{arith}
use lib.ListN.{length, get_or, set, length-set}
use lib.Seq.{get_or-set_same, get_or-set_other}
use lib.Dec.{eqb}
use borrow.Author.Tests.{eq-eqb, ne_eqb}
use Rattle.limits.specs.Limits.{node_limit}
use Rattle.symbol.specs.declared.Loc.{Loc}
use Rattle.node.specs.Views.{seen}
use Rattle.node.proofs.Nodes.{below_or, equal_or}
use Rattle.statement.specs.declared.Row.{Row}
use Rattle.statement.specs.declared.Row.TheVariants.{Given, Copied, Kept, Passed, Made}
use Rattle.statement.specs.Rows.{RoomFor, Calls, row_at, rows_from}
use Rattle.statement.specs.Rowing.{All, OnRoot, Unmade}
use Rattle.statement.proofs.RowsPut.{row_back, row_kept}
use Rattle.statement.proofs.EveryRow.{all_row}
use Rattle.keys.specs.Keys.{tree_mix, SeenMix}
use Rattle.calls.specs.Index.{slot, key_of, OnMade, LastOf, Linked, Keyed}

-- ---- rows that make a call

on_unmade : (P : ℕ → Type 0) (r : Row) → Unmade r → OnMade P r
on_unmade P (Given p b) u = tt
on_unmade P (Copied p k) u = tt
on_unmade P (Kept m b) u = tt
on_unmade P (Passed m k) u = tt
on_unmade P (Made m b link key) u = absurd u

unmade_calls : (r : Row) → Unmade r → Calls r → ⊥
unmade_calls (Given p b) u c = c
unmade_calls (Copied p k) u c = c
unmade_calls (Kept m b) u c = c
unmade_calls (Passed m k) u c = c
unmade_calls (Made m b link key) u c = u

on_root : (P Q : ℕ → Type 0) (r : Row) → OnMade P r → OnRoot (λ b. P b → Q b) r → OnMade Q r
on_root P Q (Given p b) h k = tt
on_root P Q (Copied p j) h k = tt
on_root P Q (Kept m b) h k = tt
on_root P Q (Passed m j) h k = tt
on_root P Q (Made m b link key) h k = k h

-- ---- no rows yet

pub keyed_none : (ws ms : List ℕ) (rs : List Row) {heads : List ℕ} → length heads ≡ node_limit →
    ((s : ℕ) → get_or heads s 0 ≡ 0) →
    Keyed ws ms rs heads 0
keyed_none ws ms rs {heads} wide blank =
    record {
      mix_at = λ k. 0;
      mixed = λ k l. absurd (omega arith);
      starts = λ s l.
          rw (blank s)
          record {
            below = omega arith;
            linked = λ p. absurd (omega arith);
            own = λ p. absurd (omega arith);
            none = λ j a b e. absurd (omega arith);
          };
      goes = λ k l h. absurd (omega arith);
      wide = wide;
    }

-- ---- marks change, and the rows' trees are seen as before

pub keyed_still : {ws ms : List ℕ} {rs : List Row} {heads : List ℕ} {count : ℕ} (ms' : List ℕ) →
    ((temporary : ℕ → Loc) → All (OnRoot (λ b. seen temporary ws ms' b ≡ seen temporary ws ms b)) (rows_from rs 0 count)) →
    Keyed ws ms rs heads count → Keyed ws ms' rs heads count
keyed_still {ws} {ms} {rs} {heads} {count} ms' still x =
    record {
      mix_at = x.mix_at;
      mixed = λ k l.
          on_root _ _ (row_at rs k) (x.mixed k l)
          (mix_still k (row_at rs k) (λ temporary. all_row _ rs count k (still temporary) l));
      starts = x.starts;
      goes = x.goes;
      wide = x.wide;
    }
  where
    same_mix : (k b : ℕ) → ((temporary : ℕ → Loc) → seen temporary ws ms' b ≡ seen temporary ws ms b) →
        SeenMix ws ms b (x.mix_at k) → SeenMix ws ms' b (x.mix_at k)
    same_mix k b e h temporary n f l = h temporary n f l ∙ ap (tree_mix temporary) (sym (e temporary))

    mix_still : (k : ℕ) (r : Row) →
        ((temporary : ℕ → Loc) → OnRoot (λ b. seen temporary ws ms' b ≡ seen temporary ws ms b) r) →
        OnRoot (λ b. SeenMix ws ms b (x.mix_at k) → SeenMix ws ms' b (x.mix_at k)) r
    mix_still k (Given p b) e = same_mix k b e
    mix_still k (Copied p j) e = tt
    mix_still k (Kept m b) e = same_mix k b e
    mix_still k (Passed m j) e = tt
    mix_still k (Made m b link key) e = same_mix k b e

-- ---- a row is put after count rows, and the mixes before are kept

module _ (mix_at mixAt' : ℕ → ℕ) (rs : List Row) (count : ℕ) (row : Row)
    (kept : (j : ℕ) → j < count → mixAt' j ≡ mix_at j) where
  abbrev rs' : List Row
  rs' = set rs count row

  -- a chain is kept
  last_kept : {s v : ℕ} (high : ℕ) → high ≤ count → LastOf mix_at rs s high v → LastOf mixAt' rs' s high v
  last_kept {s} {v} high h x =
      let below = x.below in
      record {
        below = below;
        linked = λ p. rw (row_kept rs count row (v - 1) (omega arith)) (x.linked p);
        own = λ p. ap slot (kept (v - 1) (omega arith)) ∙ x.own p;
        none = λ j a b e. rw (row_kept rs count row j (omega arith)) (x.none j a b (ap slot (sym (kept j (omega arith))) ∙ e));
      }

  -- and goes on past a row that is not of it
  last_more : {s v : ℕ} → LastOf mix_at rs s count v → (slot (mixAt' count) ≡ s → Unmade (row_at rs' count)) →
      LastOf mixAt' rs' s (count + 1) v
  last_more {s} {v} x u =
      let y = last_kept count (omega arith) x in
      record {
        below = omega (arith, x.below);
        linked = y.linked;
        own = y.own;
        none = λ j a b e.
            below_or j count (λ l. y.none j a l e)
            (λ l. let q : j ≡ count = omega arith in rw q (u (rw q at e)));
      }

  -- the links and keys before are kept
  goes_kept : Linked mix_at rs count → Linked mixAt' rs' count
  goes_kept goes k l h =
      let same = row_kept rs count row k l in
      let gone = goes k l (rw same at h) in
      rw (kept k l, same) (last_kept k (omega arith) gone.0, gone.1)

-- ---- a row that makes no call is put

module _ (rs : List Row) (count : ℕ) (row : Row) (unmade : Unmade row) (room : RoomFor rs (count + 1)) where
  here : row_at (set rs count row) count ≡ row
  here = row_back rs count row (omega arith)

  pub keyed_put : {ws ms heads : List ℕ} → Keyed ws ms rs heads count → Keyed ws ms (set rs count row) heads (count + 1)
  keyed_put x =
      let mix_at = x.mix_at in
      record {
        mix_at = mix_at;
        mixed = λ k l.
            below_or k count (λ b. rw (row_kept rs count row k b) (x.mixed k b))
            (λ b. let q : k ≡ count = omega arith in rw (q, here) (on_unmade _ row unmade));
        starts = λ s l. last_more mix_at mix_at rs count row (λ j b. refl) (x.starts s l) (λ e. rw here unmade);
        goes = λ k l h.
            below_or k count (λ b. goes_kept mix_at mix_at rs count row (λ j c. refl) x.goes k b h)
            (λ b.
            let q : k ≡ count = omega arith in
            absurd (unmade_calls row unmade (rw (q, here) at h)));
        wide = x.wide;
      }

-- ---- a call is put, at the head of its chain

module _ (i m next : ℕ) {ws ms : List ℕ} {rs : List Row} {heads : List ℕ} {count : ℕ} (room : RoomFor rs (count + 1))
    (ours : SeenMix ws ms i m) (x : Keyed ws ms rs heads count) where
  abbrev link : ℕ
  link = get_or heads (slot m) 0

  abbrev row : Row
  row = Made next i link (key_of m)

  abbrev called : List Row
  called = set rs count row

  abbrev mixes : ℕ → ℕ
  mixes j = cond (eqb j count) m (x.mix_at j)

  mix_here : mixes count ≡ m
  mix_here = rw (eq-eqb count count refl) refl

  mix_kept : (j : ℕ) → j < count → mixes j ≡ x.mix_at j
  mix_kept j l = rw (ne_eqb j count (λ e. omega arith)) refl

  low : slot m < node_limit
  low = omega arith

  row_here : row_at called count ≡ row
  row_here = row_back rs count row (omega arith)

  head_here : get_or (set heads (slot m) (count + 1)) (slot m) 0 ≡ count + 1
  head_here = get_or-set_same heads (slot m) (count + 1) 0 (omega (arith, x.wide))

  -- its chain begins with it
  starts_here : LastOf mixes called (slot m) (count + 1) (count + 1)
  starts_here =
      let q : count + 1 - 1 ≡ count = omega arith in
      record {
        below = omega arith;
        linked = λ p. rw (q, row_here) tt;
        own = λ p. rw q (ap slot mix_here);
        none = λ j a b e. absurd (omega arith);
      }

  starts_all : (s : ℕ) → s < node_limit → LastOf mixes called s (count + 1) (get_or (set heads (slot m) (count + 1)) s 0)
  starts_all s l =
      equal_or s (slot m)
      (λ e. rw (e, head_here) starts_here)
      (λ e.
      rw (get_or-set_other heads (slot m) s (count + 1) 0 e)
      (last_more x.mix_at mixes rs count row mix_kept (x.starts s l)
      (λ q. absurd (e (sym (sym (ap slot mix_here) ∙ q))))))

  goes_all : Linked mixes called (count + 1)
  goes_all k l h =
      below_or k count (λ b. goes_kept x.mix_at mixes rs count row mix_kept x.goes k b h)
      (λ b.
      let q : k ≡ count = omega arith in
      let kept = last_kept x.mix_at mixes rs count row mix_kept count (omega arith) (x.starts (slot m) low) in
      rw (q, mix_here, row_here) (kept, refl))

  pub keyed_called : Keyed ws ms called (set heads (slot m) (count + 1)) (count + 1)
  keyed_called =
      record {
        mix_at = mixes;
        mixed = λ k l.
            below_or k count
            (λ b. rw (row_kept rs count row k b, mix_kept k b) (x.mixed k b))
            (λ b. let q : k ≡ count = omega arith in rw (q, row_here, mix_here) ours);
        starts = starts_all;
        goes = goes_all;
        wide = length-set heads (slot m) (count + 1) ∙ x.wide;
      }
