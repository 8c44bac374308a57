-- What holds of every row, of every root and of every number; and row k with those after it. Assumes nothing.
use mathlib.Core.Path.{◌≡◌, refl}
use mathlib.Core.List.{List, [], ◌∷◌, ◌++◌}
use Prim.Native.Nat.{ℕ, zero, suc, ◌+◌, ◌-◌, ◌<◌, ◌≤◌}
use native.Mathlib.Omega.{arith}
use native.Mathlib.Nat.{add-zero}
use Rattle.symbol.specs.declared.Loc.{Loc}
use Rattle.statement.specs.declared.Row.{Row}
use Rattle.statement.specs.declared.Row.TheVariants.{Given, Copied, Kept, Passed, Made}
use Rattle.statement.specs.Rows.{row_at, rows_from, row_statement, statements_of}
use Rattle.statement.specs.Rowing.{All, OnRoot, OnGiven, NumberedBelow}

-- ---- every row

pub all_none : (P : Row → Type 0) → All P []
unfolding All
all_none P = tt

pub all_one : (P : Row → Type 0) (r : Row) → P r → All P (r ∷ [])
unfolding All
all_one P r h = (h, tt)

all_map : (P Q : Row → Type 0) → ((r : Row) → P r → Q r) → (rs : List Row) → All P rs → All Q rs
unfolding All
all_map P Q f [] h = tt
all_map P Q f (r ∷ rs) h = (f r h.0, all_map P Q f rs h.1)

pub all_append : (P : Row → Type 0) (xs ys : List Row) → All P xs → All P ys → All P (xs ++ ys)
unfolding All
all_append P [] ys h k = k
all_append P (x ∷ xs) ys h k = (h.0, all_append P xs ys h.1 k)

all_at : (P : Row → Type 0) (rs : List Row) (k m j : ℕ) → All P (rows_from rs k m) → j < m → P (row_at rs (k + j))
unfolding All rows_from
all_at P rs k zero j h l = absurd (omega arith)
all_at P rs k (suc m) zero h l = rw (add-zero k) h.0
all_at P rs k (suc m) (suc j) h l =
    let e : k + suc j ≡ k + 1 + j = omega arith in
    rw e (all_at P rs (k + 1) m j h.1 (omega arith))

pub all_row : (P : Row → Type 0) (rs : List Row) (count k : ℕ) → All P (rows_from rs 0 count) → k < count → P (row_at rs k)
all_row P rs count k h l = let z : 0 + k ≡ k = omega arith in rw z at (all_at P rs 0 count k h l)

-- ---- row k, and those after it

rows_first : (rs : List Row) (k m : ℕ) → 0 < m → rows_from rs k m ≡ row_at rs k ∷ rows_from rs (k + 1) (m - 1)
unfolding rows_from
rows_first rs k zero h = absurd (omega arith)
rows_first rs k (suc m) h = let p : suc m - 1 ≡ m = omega arith in rw p

-- of count rows, those from row k on are that row and those after it
pub rows_left : (rs : List Row) (count k : ℕ) → k < count →
    rows_from rs k (count - k) ≡ row_at rs k ∷ rows_from rs (k + 1) (count - (k + 1))
rows_left rs count k h =
    let e : count - k - 1 ≡ count - (k + 1) = omega arith in
    rw (rows_first rs k (count - k) (omega arith), e) refl

pub statements_first : (temporary : ℕ → Loc) (ws ms : List ℕ) (rs : List Row) (count k : ℕ) → k < count →
    statements_of temporary ws ms (rows_from rs k (count - k))
    ≡ row_statement temporary ws ms (row_at rs k) ∷ statements_of temporary ws ms (rows_from rs (k + 1) (count - (k + 1)))
unfolding statements_of
statements_first temporary ws ms rs count k h = rw (rows_left rs count k h) refl

-- ---- every root

pub root_both : (P Q R : ℕ → Type 0) → ((b : ℕ) → P b → Q b → R b) → (r : Row) → OnRoot P r → OnRoot Q r → OnRoot R r
root_both P Q R f (Given p b) h k = f b h k
root_both P Q R f (Copied p j) h k = tt
root_both P Q R f (Kept m b) h k = f b h k
root_both P Q R f (Passed m j) h k = tt
root_both P Q R f (Made m b link key) h k = f b h k

pub root_map : (P Q : ℕ → Type 0) → ((b : ℕ) → P b → Q b) → (r : Row) → OnRoot P r → OnRoot Q r
root_map P Q f r h = root_both P P Q (λ b x y. f b x) r h h

-- of a sheet's statement
pub given_both : (P Q R : ℕ → Type 0) → ((b : ℕ) → P b → Q b → R b) → (r : Row) → OnGiven P r → OnRoot Q r →
    OnGiven R r
given_both P Q R f (Given p b) h k = f b h k
given_both P Q R f (Copied p j) h k = tt
given_both P Q R f (Kept m b) h k = tt
given_both P Q R f (Passed m j) h k = tt
given_both P Q R f (Made m b link key) h k = tt

pub roots_both : (P Q R : ℕ → Type 0) → ((b : ℕ) → P b → Q b → R b) → (rs : List Row) → All (OnRoot P) rs →
    All (OnRoot Q) rs → All (OnRoot R) rs
unfolding All
roots_both P Q R f [] h k = tt
roots_both P Q R f (r ∷ rs) h k = (root_both P Q R f r h.0 k.0, roots_both P Q R f rs h.1 k.1)

pub roots_map : (P Q : ℕ → Type 0) → ((b : ℕ) → P b → Q b) → (rows : List Row) → All (OnRoot P) rows → All (OnRoot Q) rows
unfolding All
roots_map P Q f [] h = tt
roots_map P Q f (r ∷ rows) h = (root_map P Q f r h.0, roots_map P Q f rows h.1)

-- ---- every number

pub below_up : (m n : ℕ) → m ≤ n → (r : Row) → NumberedBelow m r → NumberedBelow n r
below_up m n l (Given p b) h = tt
below_up m n l (Copied p k) h = omega arith
below_up m n l (Kept j b) h = omega arith
below_up m n l (Passed j k) h = (omega (arith, h.0), omega (arith, h.1))
below_up m n l (Made j b link key) h = omega arith

pub named_up : (m n : ℕ) → m ≤ n → (rs : List Row) → All (NumberedBelow m) rs → All (NumberedBelow n) rs
named_up m n l rs h = all_map (NumberedBelow m) (NumberedBelow n) (below_up m n l) rs h
