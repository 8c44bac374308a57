-- The walk gives a text only to a tree that stands at least twice in the sheet. Assumes nothing.
use mathlib.Core.Path.{◌≡◌, refl, sym, ap, ◌∙◌}
use mathlib.Core.Bool.{Bool, true, false, ◌||◌}
use mathlib.Core.List.{List, [], ◌∷◌, ◌++◌}
use Prim.Native.Nat.{ℕ, ◌+◌, ◌*◌, ◌≤◌}
use native.Mathlib.Omega.{arith}
use lib.Dec.{leb, ltb}
use Rattle.definitions.specs.Tree.{Tree, constant, variable, one, two, ershov, weight}
use Rattle.definitions.specs.Same.{same, among}
use Rattle.definitions.specs.Statement.{Statement, source}
use Rattle.definitions.specs.Eliminate.{Walk, note_by, note, sides_by, walk, walk_all, texts_of}
use Rattle.definitions.proofs.Comparing.{by_test}
use Rattle.definitions.proofs.Repeating.{find_alike, tally, tally_at_most, copies, copies_all}
use Rattle.node.specs.Marks.{found_mark, mark_of}
use Rattle.share.proofs.Texts.{among_mark, mark_kept}

-- same trees have one mark
pub mark_alike : (xs : List Tree) (t u : Tree) → same t u ≡ true → mark_of xs t ≡ mark_of xs u
unfolding mark_of
mark_alike xs t u e = ap found_mark (find_alike t u e 0 xs)

among_alike : (xs : List Tree) (t u : Tree) → same t u ≡ true → among xs t ≡ among xs u
among_alike xs t u e = among_mark xs t ∙ ap (leb 1) (mark_alike xs t u e) ∙ sym (among_mark xs u)

among_kept : (xs : List Tree) (x u : Tree) → same x u ≡ false → among (xs ++ (x ∷ [])) u ≡ among xs u
among_kept xs x u e = among_mark (xs ++ (x ∷ [])) u ∙ ap (leb 1) (mark_kept xs x u e) ∙ sym (among_mark xs u)

tally_either : (a b : Bool) → tally (a || b) ≤ tally a + tally b
tally_either true b = omega arith
tally_either false b = omega arith

module _ (c : Tree) where
  -- after m meetings of trees the same as c: met needs one, and a text two
  record Met (m : ℕ) (w : Walk) : Type 0 where
    once : tally (among w.met c) ≤ m
    twice : 2 * tally (among w.texts c) ≤ m

  met_more : {m n : ℕ} {w : Walk} → m ≤ n → Met m w → Met n w
  met_more l h = record { once = omega (arith, h.once); twice = omega (arith, h.twice) }

  note_meets : (a b d : Bool) (t : Tree) (w : Walk) (m : ℕ) → among w.met t ≡ b → Met m w →
      Met (m + tally (same t c)) (note_by a b d t w)
  unfolding among
  note_meets false b d t w m e h = met_more (omega arith) h
  note_meets true false d t w m e h =
      record { once = omega (arith, h.once, tally_either (same t c) (among w.met c)); twice = omega (arith, h.twice) }
  note_meets true true false t w m e h = record { once = omega (arith, h.once); twice = by_test (same t c) again other }
    where
      after : ℕ
      after = tally (among (w.texts ++ (t ∷ [])) c)

      again : same t c ≡ true → 2 * after ≤ m + tally (same t c)
      again s =
          omega (
            arith,
            h.once,
            ap tally (sym (among_alike w.met t c s) ∙ e),
            ap tally s,
            tally_at_most (among (w.texts ++ (t ∷ [])) c),
          )

      other : same t c ≡ false → 2 * after ≤ m + tally (same t c)
      other s = omega (arith, h.twice, ap tally (among_kept w.texts t c s))
  note_meets true true true t w m e h = met_more (omega arith) h

  sides_meet : (b : Bool) (left right : Walk → Walk) (i j : ℕ) →
      ((m : ℕ) (v : Walk) → Met m v → Met (m + i) (left v)) → ((m : ℕ) (v : Walk) → Met m v → Met (m + j) (right v)) →
      (m : ℕ) (w : Walk) → Met m w → Met (m + (i + j)) (sides_by b left right w)
  sides_meet true left right i j f g m w h = met_more (omega arith) (f (m + j) (right w) (g m w h))
  sides_meet false left right i j f g m w h = met_more (omega arith) (g (m + i) (left w) (f m w h))

  note_met : (t : Tree) (m : ℕ) (w : Walk) → Met m w → Met (m + tally (same t c)) (note t w)
  unfolding note
  note_met t m w h = note_meets (leb 5 (weight t)) (among w.met t) (among w.texts t) t w m refl h

  walk_meets : (t : Tree) (m : ℕ) (w : Walk) → Met m w → Met (m + copies c t) (walk t w)
  unfolding walk copies
  walk_meets (constant i) m w h = met_more (omega arith) h
  walk_meets (variable p) m w h = met_more (omega arith) h
  walk_meets (one o a) m w h =
      met_more (omega arith) (walk_meets a (m + tally (same (one o a) c)) (note (one o a) w) (note_met (one o a) m w h))
  walk_meets (two o l r) m w h =
      met_more (omega arith)
      (sides_meet (ltb (ershov l) (ershov r)) (λ v. walk l v) (λ v. walk r v) (copies c l) (copies c r) (walk_meets l) (walk_meets r)
      (m + tally (same (two o l r) c)) (note (two o l r) w) (note_met (two o l r) m w h))

  walk_all_meets : (ss : List Statement) (m : ℕ) (w : Walk) → Met m w → Met (m + copies_all c ss) (walk_all ss w)
  unfolding walk_all copies_all
  walk_all_meets [] m w h = met_more (omega arith) h
  walk_all_meets (s ∷ ss) m w h =
      met_more (omega arith) (walk_all_meets ss (m + copies c (source s)) (walk (source s) w) (walk_meets (source s) m w h))

  pub text_stands_twice : (ss : List Statement) → 2 * tally (among (texts_of true ss) c) ≤ copies_all c ss
  unfolding texts_of among
  text_stands_twice ss =
      let unmet : Met 0 (record { met = []; texts = [] }) = record { once = omega arith; twice = omega arith } in
      omega (arith, (walk_all_meets ss 0 (record { met = []; texts = [] }) unmet).twice)
