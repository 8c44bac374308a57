-- The text of an answer, line by line. Assumes nothing.
use Prim.Native.Nat.{ℕ, zero, suc, ◌+◌, ◌*◌, ◌-◌, ◌≤◌}
use native.Mathlib.Omega.{arith}
use mathlib.Core.Bool.{Bool, true, false, cond}
use mathlib.Core.List.{List, [], ◌∷◌, ◌++◌, append-nil, append_assoc}
use mathlib.Core.Path.{◌≡◌, refl, sym, ap, ap₂, ◌∙◌}
use lib.ListN.{length, get_or, take, replicate, length-append}
use lib.Dec.{ltb}
use Rattle.limits.specs.Limits.{work_words, index_end}
use Rattle.definitions.specs.Statement.{Statement}
use Rattle.definitions.specs.Sheet.{Read, got, bad, fused, step, first_temporary}
use Rattle.definitions.specs.Emit.{emit_all}
use Rattle.definitions.specs.Operations.{Op, list_words, words_list}
use Rattle.definitions.specs.Answer.{Answer, refusal, acceptance, compiled, judged, answer}
use Rattle.definitions.specs.Text.{lines_text, answer_text, text_by}
use Rattle.definitions.proofs.Words.{list_words_length}
use Rattle.text.specs.Line.{line_text, counts_text, refused_text, line_at, lines_of}

-- ---- six words a line

module _ (k c d s1 s2 p : ℕ) (ws : List ℕ) where
  abbrev whole : List ℕ
  whole = k ∷ c ∷ d ∷ s1 ∷ s2 ∷ p ∷ ws

  word_after_lem : (i j : ℕ) → get_or whole (6 * suc i + j) 0 ≡ get_or ws (6 * i + j) 0
  word_after_lem i j =
      let e : 6 * suc i + j ≡ suc (suc (suc (suc (suc (suc (6 * i + j)))))) = omega arith in ap (λ (n : ℕ). get_or whole n 0) e

  line_after : (i : ℕ) → line_at whole (suc i) ≡ line_at ws i
  line_after i =
      let e : 6 * suc i ≡ suc (suc (suc (suc (suc (suc (6 * i)))))) = omega arith in
      rw (word_after_lem i 1, word_after_lem i 2, word_after_lem i 3, word_after_lem i 4, word_after_lem i 5, e)

  lines_first : (n : ℕ) → lines_of whole (suc n) ≡ line_text k c d s1 s2 p ++ lines_of ws n
  unfolding lines_of
  lines_first zero = sym (append-nil (line_text k c d s1 s2 p))
  lines_first (suc n) =
      ap₂ ◌++◌ (lines_first n) (line_after n) ∙ append_assoc (line_text k c d s1 s2 p) (lines_of ws n) (line_at ws n)

  take_six : (n : ℕ) → take (6 * suc n) whole ≡ k ∷ c ∷ d ∷ s1 ∷ s2 ∷ p ∷ take (6 * n) ws
  take_six n = let e : 6 * suc n ≡ suc (suc (suc (suc (suc (suc (6 * n)))))) = omega arith in rw e

-- the lines of a list's first words
pub lines_of_words : (n : ℕ) (ws : List ℕ) → 6 * n ≤ length ws → lines_text (words_list (take (6 * n) ws)) ≡ lines_of ws n
unfolding lines_text words_list lines_of
lines_of_words zero ws h = refl
lines_of_words (suc n) [] h = absurd (omega arith)
lines_of_words (suc n) (k ∷ []) h = absurd (omega arith)
lines_of_words (suc n) (k ∷ c ∷ []) h = absurd (omega arith)
lines_of_words (suc n) (k ∷ c ∷ d ∷ []) h = absurd (omega arith)
lines_of_words (suc n) (k ∷ c ∷ d ∷ s1 ∷ []) h = absurd (omega arith)
lines_of_words (suc n) (k ∷ c ∷ d ∷ s1 ∷ s2 ∷ []) h = absurd (omega arith)
lines_of_words (suc n) (k ∷ c ∷ d ∷ s1 ∷ s2 ∷ p ∷ ws) h =
    ap (λ (l : List ℕ). lines_text (words_list l)) (take_six k c d s1 s2 p ws n)
    ∙ ap (λ (l : List ℕ). line_text k c d s1 s2 p ++ l) (lines_of_words n ws (omega arith)) ∙ sym (lines_first k c d s1 s2 p ws n)

-- ---- the answer

-- the output has the words of its operations
pub record Roomy (a : Answer) : Type 0 where
  pub room : 6 * a.ops ≤ length a.output

-- the text of an accepted sheet is its first line and a line for each operation
pub answer_text_accepted : (a : Answer) → a.number ≡ 0 → Roomy a
    → answer_text a ≡ counts_text a.ops a.temps ++ lines_of a.output a.ops
unfolding answer_text
answer_text_accepted a e h =
    ap (text_by a) e ∙ ap (λ (l : List ℕ). counts_text a.ops a.temps ++ l) (lines_of_words a.ops a.output h.room)

-- that of a refused one is one line
pub answer_text_refused : (a : Answer) → (a.number ≡ 0 → ⊥) → answer_text a ≡ refused_text a.number
unfolding answer_text
answer_text_refused a ne = go a.number ne
  where
    go : (n : ℕ) → (n ≡ 0 → ⊥) → text_by a n ≡ refused_text n
    go zero z = absurd (z refl)
    go (suc n) z = refl

-- what holds of every refusal and every acceptance holds of every answer
module _ (P : Answer → Type 0) (refused : (k room : ℕ) → P (refusal k room))
    (accepted : (list : List Op) (temps room : ℕ) → P (acceptance list temps room)) where
  either_by : {a b : Answer} (t : Bool) → P a → P b → P (cond t a b)
  either_by true p q = p
  either_by false p q = q

  judged_by : (file : List ℕ) (room : ℕ) (r : Read (List Statement)) → P (judged file room r)
  judged_by file room (bad k) = refused k room
  judged_by file room (got ss temps) =
      either_by (ltb index_end (first_temporary file + step file * temps)) (refused 9 room)
      (either_by (ltb room (6 * length (emit_all (fused file) ss))) (refused 10 room)
      (accepted (emit_all (fused file) ss) temps room))

  pub answer_by : (file : List ℕ) (work room : ℕ) → P (answer file work room)
  unfolding answer
  answer_by file work room = either_by (ltb work work_words) (refused 1 room) (judged_by file room (compiled file))

-- every answer's output has the words of its operations
refusal_roomy : (k room : ℕ) → Roomy (refusal k room)
refusal_roomy k room = record { room = omega arith }

acceptance_roomy : (list : List Op) (temps room : ℕ) → Roomy (acceptance list temps room)
acceptance_roomy list temps room =
    record { room = omega (arith, length-append (list_words list) (replicate (room - 6 * length list) 0), list_words_length list) }

pub answer_roomy : (file : List ℕ) (work room : ℕ) → Roomy (answer file work room)
answer_roomy = answer_by Roomy refusal_roomy acceptance_roomy
