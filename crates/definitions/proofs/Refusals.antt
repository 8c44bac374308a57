-- What reading refuses, it refuses with a number of checks 2 to 7 or 11: never with 0, which is an answer's.
use Prim.Native.Nat.{ℕ, zero, suc, ◌+◌, ◌≤◌}
use mathlib.Core.Bool.{Bool, true, false, cond, ◌&&◌, not}
use mathlib.Core.List.{List, [], ◌∷◌}
use native.Mathlib.Omega.{arith}
use lib.ListN.{length}
use lib.Dec.{eqb, leb, ltb}
use Rattle.limits.specs.Limits.{depth_limit, node_limit, last_tag, lowest_power}
use Rattle.operation.specs.Codes.{is_unary, is_binary}
use Rattle.operation.specs.Operators.{whole_of}
use Rattle.operation.specs.declared.One.{One}
use Rattle.operation.specs.declared.Two.{Two}
use Rattle.definitions.specs.Tree.{Tree, weight}
use Rattle.definitions.specs.Sheet.{Read, got, bad, and_then, byte, number16, word32, stable, Pair, part, pairs}
use Rattle.definitions.specs.Sheet.{first_temporary, file_fits, header_fits, pairs_fit, is_temporary, place_at}
use Rattle.definitions.specs.Sheet.{TreeReader, under1, under2, by_tag, tree_at, statement_at, statements_at, sheet_of}

-- what was read, or a refusal with such a number
pub data Numbered {A : Type 0} : Read A → Type 0 where
  taken : {a : A} {n : ℕ} → Numbered (got a n)
  numbered : (k : ℕ) → 2 ≤ k → k ≤ 11 → Numbered (bad k)

module _ {A : Type 0} where
  five : Numbered {A = A} (bad 5)
  five = numbered 5 (omega arith) (omega arith)

  six : Numbered {A = A} (bad 6)
  six = numbered 6 (omega arith) (omega arith)

  either : (b : Bool) {x y : Read A} → Numbered x → Numbered y → Numbered (cond b x y)
  either true h k = h
  either false h k = k

  in_turn : {B : Type 0} {r : Read B} (f : B → ℕ → Read A) → Numbered r → ((b : B) (n : ℕ) → Numbered (f b n)) →
      Numbered (and_then r f)
  in_turn f (taken {a} {n}) k = k a n
  in_turn f (numbered number low high) k = numbered number low high

module _ (first : ℕ) (s : List ℕ) where
  place_numbered : (largest at : ℕ) → Numbered (place_at largest first s at)
  unfolding place_at
  place_numbered largest at =
      either (ltb at (length s))
      (either (leb 1 (byte s at) && leb (byte s at) largest)
      (either (ltb (at + 2) (length s))
      (either (is_temporary first (byte s at) (number16 s (at + 1))) (numbered 7 (omega arith) (omega arith)) taken) five) five) five

  module _ (tree : TreeReader) (told : (at nodes : ℕ) → Numbered (tree at nodes)) where
    under1_numbered : (o : One) (at nodes : ℕ) → Numbered (under1 tree o at nodes)
    under1_numbered o at nodes = in_turn _ (told at (nodes + 1)) λ a end. taken

    under2_numbered : (o : Two) (at nodes : ℕ) → Numbered (under2 tree o at nodes)
    under2_numbered o at nodes =
        in_turn _ (told at (nodes + 1)) λ l at'. in_turn _ (told at' (nodes + 1 + weight l)) λ r end. taken

    tag_numbered : (stable : Bool) (at nodes : ℕ) → Numbered (by_tag stable tree first s at nodes)
    tag_numbered stable at nodes =
        either (eqb (byte s at) 1) (either (ltb (at + 2) (length s)) taken five)
        (either (eqb (byte s at) 2) (in_turn _ (place_numbered 3 (at + 1)) λ p end. taken)
        (either (eqb (byte s at) 3)
        (either (ltb (at + 1) (length s)) (either (is_unary (byte s (at + 1))) (under1_numbered _ (at + 2) nodes) five) five)
        (either (eqb (byte s at) 4)
        (either (ltb (at + 1) (length s)) (either (is_binary (byte s (at + 1))) (under2_numbered _ (at + 2) nodes) five) five)
        (either (eqb (byte s at) 5) (in_turn _ (place_numbered 3 (at + 1)) λ p at'. under2_numbered _ at' nodes)
        (either (eqb (byte s at) 6) (either (ltb (at + 1) (length s)) (under1_numbered _ (at + 2) nodes) five)
        (either (eqb (byte s at) 7) (either (ltb (at + 1) (length s)) (under2_numbered _ (at + 2) nodes) five)
        (either (eqb (byte s at) 8) (either (ltb (at + 4) (length s)) (under1_numbered _ (at + 5) nodes) five)
        (either (ltb (at + 4) (length s))
        (either (eqb (whole_of (word32 s (at + 1))) lowest_power) (numbered 11 (omega arith) (omega arith))
        (under2_numbered _ (at + 5) nodes))
        five))))))))

  at_tag_lem : (at : ℕ) {r : Read Tree} → Numbered r →
      Numbered (cond (ltb at (length s)) (cond (leb 1 (byte s at) && leb (byte s at) last_tag) r (bad 5)) (bad 5))
  at_tag_lem at h = either (ltb at (length s)) (either (leb 1 (byte s at) && leb (byte s at) last_tag) h five) five

  tree_numbered : (stable : Bool) (left at nodes : ℕ) → Numbered (tree_at stable first left s at nodes)
  unfolding tree_at
  tree_numbered stable zero at nodes = at_tag_lem at six
  tree_numbered stable (suc d) at nodes =
      at_tag_lem at
      (either (ltb nodes node_limit)
      (tag_numbered (λ a n. tree_at stable first d s a n) (λ a n. tree_numbered stable d a n) stable at nodes) six)

  statement_numbered : (stable : Bool) (nodes : ℕ) → Numbered (statement_at stable first nodes s)
  unfolding statement_at
  statement_numbered stable nodes =
      in_turn _ (place_numbered 2 0) λ p at.
      in_turn _ (tree_numbered stable depth_limit at nodes) λ t end.
      either (eqb end (length s)) taken five

statements_numbered : (file : List ℕ) (nodes : ℕ) (ps : List Pair) → Numbered (statements_at file nodes ps)
unfolding statements_at
statements_numbered file nodes [] = taken
statements_numbered file nodes (p ∷ ps) =
    in_turn _ (statement_numbered (first_temporary file) (part file p) (stable file) nodes) λ s n.
    in_turn _ (statements_numbered file n ps) λ ss m. taken

pub sheet_numbered : (file : List ℕ) → Numbered (sheet_of file)
unfolding sheet_of
sheet_numbered file =
    either (not (file_fits file)) (numbered 2 (omega arith) (omega arith))
    (either (not (header_fits file)) (numbered 3 (omega arith) (omega arith))
    (either (not (pairs_fit file)) (numbered 4 (omega arith) (omega arith)) (statements_numbered file 0 (pairs file))))
