-- What is counted of the vectors, one after another. Assumes nothing.
use Prim.Native.Nat.{ℕ, zero, suc, ◌+◌, ◌-◌, ◌≤◌, ◌<◌}
use native.Mathlib.Omega.{arith}
use mathlib.Core.Bool.{Bool, true, false, cond}
use mathlib.Core.List.{List}
use mathlib.Core.Path.{◌≡◌, refl, sym, ◌∙◌}
use lib.ListN.{length}
use borrow.Author.Tests.{lt-ltb}
use Rattle.replay.specs.Vector.{holds, vectors_of, next_vector, sum_from, one, wrong}
use Rattle.replay.specs.declared.Tally.{Tally}

-- n is counted of the first vectors, and the rest is counted of the text that is left
pub record SumSoFar (f : List ℕ → ℕ) (all : List ℕ) (count n : ℕ) (text : List ℕ) : Type 0 where
  pub sum : n + sum_from f (length all - count) text ≡ sum_from f (length all) (vectors_of all)

module _ (f : List ℕ → ℕ) (all : List ℕ) where
  pub sum_none : {text : List ℕ} → text ≡ vectors_of all → SumSoFar f all 0 0 text
  sum_none e =
      let whole : length all - 0 ≡ length all = omega arith in
      record { sum = rw (e, whole) (omega arith) }

  pub sum_next : {count n m : ℕ} {text next : List ℕ} → SumSoFar f all count n text → 0 < length text → count < length all
      → next ≡ next_vector text → m ≡ n + f text → SumSoFar f all (count + 1) m next
  unfolding sum_from
  sum_next {count} {n} {m} {text} so_far some room e m-is =
      let k = length all - (count + 1) in
      let more : length all - count ≡ suc k = omega arith in
      let old = rw (more, lt-ltb 0 (length text) some) at so_far.sum in
      record { sum = rw (m-is, e) (omega (arith, old)) }

  sum_end : (k : ℕ) (text : List ℕ) → length text ≡ 0 → sum_from f k text ≡ 0
  unfolding sum_from
  sum_end zero text e = refl
  sum_end (suc k) text e = rw e

  pub sum_all : {count n : ℕ} {text : List ℕ} → SumSoFar f all count n text → length text ≡ 0
      → n ≡ sum_from f (length all) (vectors_of all)
  sum_all {count} {n} {text} so_far e = omega (arith, so_far.sum, sum_end (length all - count) text e)

-- so it is of both counts
pub record CountsSoFar (all : List ℕ) (t : Tally) (text : List ℕ) : Type 0 where
  pub fewer : t.wrong ≤ t.count
  pub within : t.count + length text ≤ length all
  pub counted : SumSoFar one all t.count t.count text
  pub differ : SumSoFar wrong all t.count t.wrong text

-- t counts a vector more than s, and one more that differs if this one does not hold
pub record CountsOne (s : Tally) (text : List ℕ) (t : Tally) : Type 0 where
  pub count : t.count ≡ s.count + 1
  pub wrong : t.wrong ≡ s.wrong + wrong text

wrong_most : (text : List ℕ) → wrong text ≤ 1
wrong_most text = go (holds text)
  where
    go : (h : Bool) → cond h 0 1 ≤ 1
    go true = omega arith
    go false = omega arith

pub counts_next : {all text next : List ℕ} {s t : Tally} → CountsSoFar all s text → 0 < length text → CountsOne s text t
    → next ≡ next_vector text → length next < length text → CountsSoFar all t next
counts_next {all} {text} {next} {s} so_far some more e shorter =
    let room : s.count < length all = omega (arith, so_far.within) in
    let counted : SumSoFar one all (s.count + 1) (s.count + 1) next = sum_next one all so_far.counted some room e refl in
    let differ = sum_next wrong all so_far.differ some room e more.wrong in
    record {
      fewer = omega (arith, wrong_most text, more.count, more.wrong, so_far.fewer);
      within = omega (arith, more.count, so_far.within);
      counted = rw more.count counted;
      differ = rw more.count differ;
    }

-- a vector that holds is not counted as wrong
module _ (text : List ℕ) (n : ℕ) {h : Bool} (asked : h ≡ holds text) where
  pub wrong_not : h ≡ true → n ≡ n + wrong text
  wrong_not e = rw (sym asked ∙ e) (omega arith)

  pub wrong_one : h ≡ false → n + 1 ≡ n + wrong text
  wrong_one e = rw (sym asked ∙ e)
