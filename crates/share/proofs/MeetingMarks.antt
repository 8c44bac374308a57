-- What a meeting does to the classes and to the texts: none, the first, the second or a later one. Assumes nothing.
use mathlib.Core.Path.{◌≡◌, refl, sym, ap, ◌∙◌}
use mathlib.Core.Bool.{Bool, true, false, cond, ◌||◌}
use mathlib.Core.Option.{some}
use mathlib.Core.List.{List, [], ◌∷◌, ◌++◌}
use Prim.Native.Nat.{ℕ, ◌+◌, ◌<◌, ◌≤◌}
use native.Mathlib.Omega.{arith}
use lib.ListN.{length, set, get_elem?, length-set, length-append}
use lib.Seq.{get_or-set_other}
use lib.Dec.{eqb, leb}
use borrow.Author.Tests.{eqb-true, eqb-false, eq-eqb, le-leb}
use Rattle.definitions.specs.Tree.{weight}
use Rattle.definitions.specs.Same.{same, among}
use Rattle.definitions.specs.Eliminate.{Walk, note}
use Rattle.node.specs.Nodes.{tree}
use Rattle.numbers.specs.Filled.{at}
use Rattle.node.specs.Marks.{mark_of}
use Rattle.statement.proofs.NodesUnmarked.{zeros_set, bare_marked}
use Rattle.share.specs.Sharing.{WalkReady, Met, met, is_met, TextsFit, Noted, Walked}
use Rattle.share.proofs.Texts.{among_mark, mark_new, mark_kept, note_light, note_first, note_second, note_later}
use Rattle.share.proofs.Texts.{text_kept, text_last}
use Rattle.share.proofs.Marking.{got_set, at_set}

-- a meeting of node i
module _ {ws cs es : List ℕ} {n : ℕ} {m : Met} {i : ℕ} (ready : WalkReady ws cs es n) (fits : TextsFit n m) (inside : i < n) where
  abbrev class : ℕ
  class = at cs i

  tells : (j : ℕ) → j < n → same (tree ws i) (tree ws j) ≡ eqb class (at cs j)
  tells j h = sym (ready.classed.tells i j (omega arith) inside (omega arith) h)

  pub class_below : class < n
  class_below = ready.classed.below i (omega arith) inside

  pub class_within : class < length m.classes
  class_within = omega (arith, class_below, fits.classes)

  room : class < length m.marks
  room = omega (arith, class_below, ready.table.few, fits.marks)

  -- a mark that is set is not past the nodes
  past_kept : (v j : ℕ) → n ≤ j → at (set m.marks class v) j ≡ 0
  past_kept v j h = get_or-set_other m.marks class j v 0 (λ e. omega (arith, class_below)) ∙ fits.past j h

  -- a class without a temporary leaves room for one
  pub room_more : at m.marks class ≡ 0 → m.next < n
  room_more z = omega (arith, fits.room, zeros_set m.marks n class 1 class_below room z)

  stay : ((w : Walk) → Noted ws cs n m w → note (tree ws i) w ≡ w) → Walked ws cs n (note (tree ws i)) m m
  stay e = record { fits = fits; noted = λ w h. rw (e w h) h }

  pub light : weight (tree ws i) < 5 → Walked ws cs n (note (tree ws i)) m m
  light w5 = stay (λ w h. note_light (tree ws i) w w5)

  -- what its class says of the tree
  met_by : (w : Walk) → Noted ws cs n m w → (b : Bool) → is_met m class ≡ b → among w.met (tree ws i) ≡ b
  met_by w h b e = sym (h.met i inside) ∙ e

  given_by : (w : Walk) → Noted ws cs n m w → (b : Bool) → leb 1 (at m.marks class) ≡ b → among w.texts (tree ws i) ≡ b
  given_by w h b e = among_mark w.texts (tree ws i) ∙ ap (leb 1) (sym (h.given i inside)) ∙ e

  -- nodes of one class have one mark
  like : (j : ℕ) → eqb class (at cs j) ≡ true → at m.marks (at cs j) ≡ at m.marks class
  like j e = ap (at m.marks) (sym (eqb-true class (at cs j) e))

  module _ (heavy : 5 ≤ weight (tree ws i)) where
    pub later : is_met m class ≡ true → 1 ≤ at m.marks class → Walked ws cs n (note (tree ws i)) m m
    later seen given =
        stay
        (λ w h. note_later (tree ws i) w heavy (met_by w h true seen) (given_by w h true (le-leb 1 (at m.marks class) given)))

    module _ (new : is_met m class ≡ false) where
      abbrev once : Met
      once = met (set m.classes class true) m.marks m.texts m.next

      module _ (w : Walk) (h : Noted ws cs n m w) where
        first_met : (j : ℕ) → j < n → is_met once (at cs j) ≡ among (tree ws i ∷ w.met) (tree ws j)
        unfolding among
        first_met j lj =
            rw (got_set m.classes class true (at cs j) false class_within, tells j lj) (go (eqb class (at cs j)))
          where
            go : (b : Bool) → cond b true (is_met m (at cs j)) ≡ (b || among w.met (tree ws j))
            go true = refl
            go false = h.met j lj

        first_noted : Noted ws cs n once (note (tree ws i) w)
        first_noted =
            rw (note_first (tree ws i) w heavy (met_by w h false new))
            record {
              met = first_met;
              given = h.given;
              count = h.count;
              nodes = h.nodes;
              trees = h.trees;
              own = h.own;
            }

      pub first : Walked ws cs n (note (tree ws i)) m once
      first =
          record {
            fits =
                record {
                  classes = omega (arith, fits.classes, length-set m.classes class true);
                  marks = fits.marks;
                  places = fits.places;
                  room = fits.room;
                  past = fits.past;
                };
            noted = first_noted;
          }

    module _ (seen : is_met m class ≡ true) (z : at m.marks class ≡ 0) where
      abbrev twice : Met
      twice = met m.classes (set m.marks class (m.next + 1)) (set m.texts m.next i) (m.next + 1)

      place : m.next < length m.texts
      place = omega (arith, fits.places, room_more z, ready.table.few)

      module _ (w : Walk) (h : Noted ws cs n m w) where
        second_given : (j : ℕ) → j < n → at twice.marks (at cs j) ≡ mark_of (w.texts ++ (tree ws i ∷ [])) (tree ws j)
        second_given j lj = rw (at_set m.marks class (m.next + 1) (at cs j) room) (go (eqb class (at cs j)) refl)
          where
            go : (b : Bool) → eqb class (at cs j) ≡ b →
                cond b (m.next + 1) (at m.marks (at cs j)) ≡ mark_of (w.texts ++ (tree ws i ∷ [])) (tree ws j)
            go true e =
                let none : mark_of w.texts (tree ws j) ≡ 0 = sym (h.given j lj) ∙ like j e ∙ z in
                omega (arith, mark_new w.texts (tree ws i) (tree ws j) none (tells j lj ∙ e), h.count)
            go false e = h.given j lj ∙ sym (mark_kept w.texts (tree ws i) (tree ws j) (tells j lj ∙ e))

        second_nodes : (s : ℕ) → s < m.next + 1 → at twice.texts s < n
        second_nodes s b = rw (at_set m.texts m.next i s place) (go (eqb m.next s) refl)
          where
            go : (b : Bool) → eqb m.next s ≡ b → cond b i (at m.texts s) < n
            go true e = inside
            go false e = let d = eqb-false m.next s e in h.nodes s (omega arith)

        second_trees : (s : ℕ) → s < m.next + 1 →
            get_elem? (w.texts ++ (tree ws i ∷ [])) s ≡ some (tree ws (at twice.texts s))
        second_trees s b = rw (at_set m.texts m.next i s place) (go (eqb m.next s) refl)
          where
            go : (b : Bool) → eqb m.next s ≡ b →
                get_elem? (w.texts ++ (tree ws i ∷ [])) s ≡ some (tree ws (cond b i (at m.texts s)))
            go true e = text_last w.texts (tree ws i) s (omega (arith, eqb-true m.next s e, h.count))
            go false e =
                let d = eqb-false m.next s e in
                text_kept w.texts (tree ws i) s (omega (arith, h.count)) ∙ h.trees s (omega arith)

        -- a class that gets its temporary now had none
        own_kept : (s : ℕ) → s < m.next → at twice.marks (at cs (at m.texts s)) ≡ s + 1
        own_kept s b =
            rw (at_set m.marks class (m.next + 1) (at cs (at m.texts s)) room) (go (eqb class (at cs (at m.texts s))) refl)
          where
            go : (b : Bool) → eqb class (at cs (at m.texts s)) ≡ b → cond b (m.next + 1) (at m.marks (at cs (at m.texts s))) ≡ s + 1
            go true e = absurd (omega (arith, like (at m.texts s) e, h.own s b, z))
            go false e = h.own s b

        second_own : (s : ℕ) → s < m.next + 1 → at twice.marks (at cs (at twice.texts s)) ≡ s + 1
        second_own s b = rw (at_set m.texts m.next i s place) (go (eqb m.next s) refl)
          where
            go : (b : Bool) → eqb m.next s ≡ b → at twice.marks (at cs (cond b i (at m.texts s))) ≡ s + 1
            go true e =
                rw (at_set m.marks class (m.next + 1) class room, eq-eqb class class refl) (omega (arith, eqb-true m.next s e))
            go false e = let d = eqb-false m.next s e in own_kept s (omega arith)

        second_noted : Noted ws cs n twice (note (tree ws i) w)
        second_noted =
            rw (note_second (tree ws i) w heavy (met_by w h true seen) (given_by w h false (ap (leb 1) z)))
            record {
              met = h.met;
              given = second_given;
              count = omega (arith, h.count, length-append w.texts (tree ws i ∷ []));
              nodes = second_nodes;
              trees = second_trees;
              own = second_own;
            }

      second_walked : Walked ws cs n (note (tree ws i)) m twice
      second_walked =
          record {
            fits =
                record {
                  classes = fits.classes;
                  marks = length-set m.marks class (m.next + 1) ∙ fits.marks;
                  places = length-set m.texts m.next i ∙ fits.places;
                  room =
                      omega (
                        arith,
                        fits.room,
                        zeros_set m.marks n class (m.next + 1) class_below room z,
                        bare_marked (m.next + 1) (omega arith),
                      );
                  past = past_kept (m.next + 1);
                };
            noted = second_noted;
          }

      pub second : {marks : List ℕ} → marks ≡ set m.marks class (m.next + 1) →
          Walked ws cs n (note (tree ws i)) m (met m.classes marks (set m.texts m.next i) (m.next + 1))
      second e = rw e second_walked
