-- Equal words, and words that are all zero. Assumes nothing.
use Prim.Native.Nat.{ℕ, zero, suc, ◌-◌, ◌*◌, ◌≤◌}
use mathlib.Core.Bool.{true}
use mathlib.Core.List.{List, ◌++◌}
use mathlib.Core.Path.{◌≡◌, refl, sym, ap, subst, ◌∙◌}
use lib.ListN.{length, take, drop, replicate, length-replicate}
use lib.Seq.{drop_at, length-take-le}
use Rattle.definitions.specs.Operations.{Op, list_words}
use Rattle.definitions.specs.Answer.{Answer, refusal, acceptance, answer}
use Rattle.definitions.proofs.Words.{list_words_length}
use Rattle.text.proofs.Whole.{answer_by}
use Rattle.replay.specs.Vector.{all_zero}

-- n equal words are n
pub equal_words : (n v : ℕ) → n ≡ length (replicate n v)
equal_words n v = sym (length-replicate n v)

-- and the first k of them are k
pub equal_part : (n v k : ℕ) → k ≤ n → k ≡ length (take k (replicate n v))
equal_part n v k h = sym (length-take-le k (replicate n v) (subst (λ (m : ℕ). k ≤ m) (equal_words n v) h))

-- ---- what a call leaves

pub zeros : (n : ℕ) → all_zero (replicate n 0) ≡ true
zeros zero = refl
zeros (suc n) = zeros n

zeros_from : (k n : ℕ) → all_zero (drop k (replicate n 0)) ≡ true
zeros_from zero n = zeros n
zeros_from (suc k) zero = refl
zeros_from (suc k) (suc n) = zeros_from k n

-- the output past the list
record RestZero (a : Answer) : Type 0 where
  rest : all_zero (drop (6 * a.ops) a.output) ≡ true

refusal_rest : (k room : ℕ) → RestZero (refusal k room)
refusal_rest k room = record { rest = zeros_from (6 * 0) room }

acceptance_rest : (list : List Op) (temps room : ℕ) → RestZero (acceptance list temps room)
acceptance_rest list temps room =
    let past : drop (6 * length list) (list_words list ++ replicate (room - 6 * length list) 0) ≡ replicate (room - 6 * length list) 0 =
    drop_at (list_words list) _ (6 * length list) (list_words_length list) in
    record { rest = ap all_zero past ∙ zeros (room - 6 * length list) }

pub answer_rest : (file : List ℕ) (work room : ℕ)
    → all_zero (drop (6 * (answer file work room).ops) (answer file work room).output) ≡ true
answer_rest file work room = (answer_by RestZero refusal_rest acceptance_rest file work room).rest
