-- The first words of an array, as many as there are nodes. Assumes nothing.
use mathlib.Core.Path.{◌≡◌, ◌∙◌}
use mathlib.Core.List.{List}
use Prim.Native.Nat.{ℕ, ◌-◌, ◌≤◌}
use native.Mathlib.Nat.{sub-zero}
use native.Mathlib.Omega.{arith}
use lib.ListN.{length, take, drop}
use lib.Seq.{length-take-le}

-- what `xs[0..n]` lends
abbrev pub part : ℕ → List ℕ → List ℕ
part n xs = take (n - 0) (drop 0 xs)

pub part_length : (n : ℕ) (xs : List ℕ) → n ≤ length xs → length (part n xs) ≡ n
part_length n xs h = length-take-le (n - 0) xs (omega arith) ∙ sub-zero n
