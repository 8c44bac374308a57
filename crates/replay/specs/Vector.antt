-- A recorded vector, and whether it holds (model/README.md has the format).
use Rattle.std.specs.Prelude.{ℕ, zero, suc, ◌+◌, ◌*◌, Bool, false, cond, ◌&&◌, List, leb, ltb, length, drop, nat_eq}
use Rattle.std.specs.List.{list_all}
use Rattle.limits.specs.Limits.{work_words, file_limit}
use Rattle.operation.specs.Names.{bytes}
use Rattle.definitions.specs.Answer.{Answer, answer}
use Rattle.definitions.specs.Text.{answer_text}
use Rattle.zubmanger.specs.declared.Numbers.{Numbers}
use Rattle.text.specs.Line.{answer_of}
use Rattle.vectors.specs.Vectors.{begins, after, end_line, bytes_of, number_from, digits_from, comments_length, end_length}

-- words that are all zero
abbrev pub all_zero : List ℕ → Bool
all_zero ws = list_all (λ w. nat_eq w 0) ws

-- the answer of what a call gives, and the words of the output
abbrev pub given_answer : Numbers → (output : List ℕ) → Answer
given_answer n out = answer_of n.number n.ops n.temps out

-- a text begins with that of an answer, and the line `end` after it
unfoldable pub recorded : (text : List ℕ) → Answer → Bool
recorded text a = begins end_line (after (answer_text a) text)

-- and past its list the words of its output are zero
unfoldable pub recorded_zero : (text : List ℕ) → Answer → Bool
recorded_zero text a = recorded text a && all_zero (drop (6 * a.ops) a.output)

-- a text begins with the answer to a file with so many words lent, and the words are no more than there are
unfoldable pub lent_holds : (text file : List ℕ) (work room : ℕ) → Bool
lent_holds text file work room = leb work work_words && (leb room work_words && recorded text (answer file work room))

-- the number that a text begins with, and what is left after it
abbrev pub number_of_text : List ℕ → ℕ
number_of_text text = number_from 0 text

abbrev pub after_number : List ℕ → List ℕ
after_number text = drop (digits_from 0 text) text

-- so with the words to lend and the answer that a text has
unfoldable pub asks : (text file : List ℕ) → Bool
asks text file =
    let work = after (bytes "\nlent ") text in
    let room = after (bytes " ") (after_number work) in
    lent_holds (after (bytes "\n") (after_number room)) file (number_of_text work) (number_of_text room)

-- and with a vector's sheet, of which one byte more is read than it may have
unfoldable pub holds : (text : List ℕ) → Bool
holds text =
    let sheet = after (bytes "sheet ") text in
    let file = bytes_of (file_limit + 1) sheet in
    asks (drop (2 * length file) sheet) file

-- the text from the first vector on, past its comments, and from the next one on
abbrev pub vectors_of : List ℕ → List ℕ
vectors_of text = drop (comments_length false text) text

abbrev pub next_vector : List ℕ → List ℕ
next_vector text = vectors_of (drop (end_length false text) text)

-- what f counts of each vector, so many at most
unfoldable pub sum_from : (f : List ℕ → ℕ) (most : ℕ) (text : List ℕ) → ℕ
sum_from f zero text = 0
sum_from f (suc n) text = cond (ltb 0 (length text)) (f text + sum_from f n (next_vector text)) 0

-- how many vectors there are, never more than bytes, and how many do not hold
abbrev pub one : List ℕ → ℕ
one text = 1

abbrev pub wrong : List ℕ → ℕ
wrong text = cond (holds text) 0 1

unfoldable pub vector_count : List ℕ → ℕ
vector_count all = sum_from one (length all) (vectors_of all)

unfoldable pub wrong_count : List ℕ → ℕ
wrong_count all = sum_from wrong (length all) (vectors_of all)
