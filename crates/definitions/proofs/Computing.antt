-- Answers to sheets in hexadecimal, computed, for the tables of marked sheets and of words.
use Prim.Native.Nat.{ℕ, ◌+◌, ◌*◌, ◌-◌}
use Prim.Native.String.{String, [] as empty, ◌∷◌ as prepend}
use mathlib.Core.Bool.{Bool, true, false, cond, ◌&&◌}
use mathlib.Core.List.{List, [], ◌∷◌}
use lib.Dec.{eqb, leb}
use lib.Count.{count_trailing_zeros}
use Rattle.symbol.specs.Place.{same_place}
use Rattle.operation.specs.Codes.{commutes, fuses_right, fuses_left, unary_form, binary_form}
use Rattle.operation.specs.Numbers.{unary_number, unary_code, binary_number, binary_code}
use Rattle.operation.specs.Names.{bytes}
use Rattle.definitions.specs.Tree.{ershov, weight, depth}
use Rattle.definitions.specs.Same.{same, among}
use Rattle.definitions.specs.Sheet.{sheet_of, file_fits, header_fits, pairs_fit, pairs, pairs_from, in_order}
use Rattle.definitions.specs.Sheet.{statements_at, statement_at, tree_at, place_at}
use Rattle.definitions.specs.Eliminate.{texts_of, walk_all, walk, note, eliminate, rewrite, find, holds}
use Rattle.definitions.specs.Trim.{trim_all, trim, seek, too_wide}
use Rattle.definitions.specs.Operations.{op_words, list_words}
use Rattle.definitions.specs.Power.{signed_of, digits, digits_in, higher, gather_ops, square_ops, positive_ops}
use Rattle.definitions.specs.Emit.{emit_all, statement_ops, evaluate, plan, setup_binary, power_ops}
use Rattle.definitions.specs.Answer.{Answer, answer, temporary_count, trimmed, eliminated}

-- bytes from hexadecimal digits, two a byte
abbrev pub digit : ℕ → ℕ
digit c = cond (leb c 57) (c - 48) (c - 87)

unfoldable pub from_digits : List ℕ → List ℕ
from_digits [] = []
from_digits (h ∷ []) = []
from_digits (h ∷ l ∷ ds) = (16 * digit h + digit l) ∷ from_digits ds

unfoldable pub same_numbers : List ℕ → List ℕ → Bool
same_numbers [] [] = true
same_numbers [] (y ∷ ys) = false
same_numbers (x ∷ xs) [] = false
same_numbers (x ∷ xs) (y ∷ ys) = eqb x y && same_numbers xs ys

-- the answer to a sheet in hexadecimal, given the words of work and output lent
unfoldable pub answer_to : (sheet : String) (work room : ℕ) → Answer
unfolding from_digits bytes same_place unary_number unary_code binary_number binary_code commutes fuses_right fuses_left
    unary_form binary_form ershov weight depth same among
    sheet_of file_fits header_fits pairs_fit pairs pairs_from in_order statements_at statement_at tree_at place_at
    texts_of walk_all walk note eliminate rewrite find holds trim_all trim seek too_wide op_words list_words
    signed_of count_trailing_zeros digits digits_in higher gather_ops square_ops positive_ops power_ops
    emit_all statement_ops evaluate plan setup_binary answer temporary_count trimmed eliminated
answer_to sheet work room = answer (from_digits (bytes sheet)) work room

-- a text over several lines
infixr 5 ◌++◌
unfoldable pub ◌++◌ : String → String → String
empty ++ t = t
prepend c s ++ t = prepend c (s ++ t)

unfoldable pub all_of : List Bool → Bool
all_of [] = true
all_of (b ∷ bs) = b && all_of bs
