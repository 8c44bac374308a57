-- Lines of text as they are made: document 01, 'The program `sheet`'.
use Rattle.std.specs.Prelude.{ℕ, zero, suc, ◌+◌, ◌*◌, ◌≤◌, List, [], ◌++◌, ◌≡◌, length, get_or, take}
use Rattle.std.proofs.lemmas.List.Edits.{sets}
use Rattle.operation.specs.Names.{bytes}
use Rattle.definitions.specs.Operations.{words_op}
use Rattle.definitions.specs.Answer.{Answer}
use Rattle.definitions.specs.Text.{decimal, op_text, newline, answer_text}

-- the text of an operation's six words, as a list; and their line
abbrev pub words_text : List ℕ → List ℕ
words_text ws =
    op_text (words_op (get_or ws 0 0) (get_or ws 1 0) (get_or ws 2 0) (get_or ws 3 0) (get_or ws 4 0) (get_or ws 5 0))

abbrev pub line_text : (kind code d s1 s2 place : ℕ) → List ℕ
line_text k c d s1 s2 p = op_text (words_op k c d s1 s2 p) ++ newline

-- the first line of an accepted sheet, and the only one of a refused
abbrev pub counts_text : (ops temps : ℕ) → List ℕ
counts_text n t = bytes "ops " ++ decimal n ++ bytes " temps " ++ decimal t ++ newline

abbrev pub refused_text : ℕ → List ℕ
refused_text k = bytes "refused " ++ decimal k ++ newline

-- the line of the six words from a place on; that of operation i of a list's words, and those of the first n
abbrev pub line_from : List ℕ → (at : ℕ) → List ℕ
line_from ws at =
    line_text (get_or ws at 0) (get_or ws (at + 1) 0) (get_or ws (at + 2) 0) (get_or ws (at + 3) 0)
    (get_or ws (at + 4) 0) (get_or ws (at + 5) 0)

abbrev pub line_at : List ℕ → ℕ → List ℕ
line_at ws i = line_from ws (6 * i)

unfoldable pub lines_of : List ℕ → (n : ℕ) → List ℕ
lines_of ws zero = []
lines_of ws (suc i) = lines_of ws i ++ line_at ws i

-- the answer of a number, two counts and the words of the output
abbrev pub answer_of : (number ops temps : ℕ) (output : List ℕ) → Answer
answer_of k n t out = record { number = k; ops = n; temps = t; output = out }

-- the text of an answer is written at the start of a text; r is its length, and so many bytes can be lent
pub record WritesAnswer (a : Answer) (old new : List ℕ) (r : ℕ) : Type 0 where
  pub whole : new ≡ sets old 0 (answer_text a)
  pub count : r ≡ length (answer_text a)
  pub first : take r new ≡ answer_text a
  pub inside : r ≤ length new
  pub counted : r ≡ length (take r new)
