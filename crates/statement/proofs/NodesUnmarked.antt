-- How many nodes have no mark, and what a mark that is set takes of them. Assumes nothing.
use mathlib.Core.Path.{◌≡◌, refl, sym, ap, ap₂, ◌∙◌}
use mathlib.Core.List.{List}
use Prim.Native.Nat.{ℕ, zero, suc, ◌+◌, ◌<◌, ◌≤◌}
use native.Mathlib.Omega.{arith}
use lib.ListN.{length, get_or, set}
use lib.Seq.{get_or-set_same, get_or-set_other}
use borrow.Author.Tests.{ne_eqb}
use Rattle.node.specs.Views.{bare, zeros}
use Rattle.node.proofs.Nodes.{equal_or}

zeros_frame : (ms ms' : List ℕ) (n : ℕ) → ((j : ℕ) → j < n → get_or ms' j 0 ≡ get_or ms j 0) → zeros ms' n ≡ zeros ms n
unfolding zeros
zeros_frame ms ms' zero h = refl
zeros_frame ms ms' (suc n) h = ap₂ ◌+◌ (zeros_frame ms ms' n (λ j l. h j (omega arith))) (ap bare (h n (omega arith)))

-- a node's mark is set for the first time
pub zeros_set : (ms : List ℕ) (n i v : ℕ) → i < n → i < length ms → get_or ms i 0 ≡ 0 →
    zeros (set ms i v) n + 1 ≡ zeros ms n + bare v
unfolding zeros
zeros_set ms zero i v h l z = absurd (omega arith)
zeros_set ms (suc n) i v h l z =
    equal_or i n
    (λ e.
    let a = zeros_frame ms (set ms i v) n (λ j u. get_or-set_other ms i j v 0 (λ q. omega arith)) in
    let b : bare (get_or (set ms i v) n 0) ≡ bare v =
    ap bare (ap (λ (k : ℕ). get_or (set ms i v) k 0) (sym e) ∙ get_or-set_same ms i v 0 l) in
    let c : bare (get_or ms n 0) ≡ 1 = ap bare (ap (λ (k : ℕ). get_or ms k 0) (sym e) ∙ z) in
    omega (arith, a, b, c))
    (λ e.
    let a = zeros_set ms n i v (omega (arith, e)) l z in
    let b : bare (get_or (set ms i v) n 0) ≡ bare (get_or ms n 0) = ap bare (get_or-set_other ms i n v 0 (λ q. e (sym q))) in
    omega (arith, a, b))

pub bare_most : (m : ℕ) → bare m ≤ 1
bare_most m = equal_or m 0 (λ e. omega (arith, ap bare e)) (λ e. rw (ne_eqb m 0 e) (omega arith))

pub bare_marked : (m : ℕ) → 0 < m → bare m ≡ 0
bare_marked m h = rw (ne_eqb m 0 (λ z. omega arith)) refl

pub zeros_most : (ms : List ℕ) (n : ℕ) → zeros ms n ≤ n
unfolding zeros
zeros_most ms zero = omega arith
zeros_most ms (suc n) = omega (arith, zeros_most ms n, bare_most (get_or ms n 0))
