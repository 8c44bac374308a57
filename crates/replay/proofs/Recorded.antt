-- What a vector says of a call, and what the code finds of it. Assumes nothing.
use Prim.Native.Nat.{ℕ, ◌+◌, ◌*◌, ◌≤◌, ◌<◌}
use native.Mathlib.Omega.{arith}
use mathlib.Core.Bool.{Bool, true, false, ◌&&◌, and-true, and-false}
use mathlib.Core.List.{List}
use mathlib.Core.Path.{◌≡◌, sym, ap, ap₂, ◌∙◌}
use lib.Dec.{leb}
use lib.ListN.{length, take}
use lib.Seq.{sets, length-sets}
use borrow.Author.Tests.{le-leb, lt-leb}
use Rattle.limits.specs.Limits.{work_words, file_limit}
use Rattle.operation.specs.Names.{bytes}
use Rattle.definitions.specs.Answer.{Answer, answer}
use Rattle.definitions.specs.Text.{answer_text}
use Rattle.zubmanger.specs.declared.Numbers.{Numbers}
use Rattle.zubmanger.specs.Call.{Called}
use Rattle.text.proofs.Texts.{sets_first, parts_room}
use Rattle.vectors.specs.Vectors.{begins, after, end_line, bytes_of, ReadsNumber, ReadsBytes}
use Rattle.replay.specs.Vector.{all_zero, given_answer, recorded, recorded_zero, lent_holds, asks, holds}
use Rattle.replay.proofs.Zeros.{zeros, answer_rest}

-- what is left after the text, and whether the line `end` is next
module _ (text : List ℕ) (a : Answer) {printed rest : List ℕ} {e : Bool} where
  pub found_recorded : printed ≡ answer_text a → rest ≡ after printed text → e ≡ begins end_line rest → recorded text a ≡ e
  unfolding recorded
  found_recorded t p e = sym (e ∙ ap (begins end_line) (p ∙ ap (λ (s : List ℕ). after s text) t))

-- ---- a call

module _ {file work work' out out' : List ℕ} {n : Numbers} (called : Called file work work' out out' n) where
  -- what it gives are the parts of the answer
  given_answer_lem : given_answer n out' ≡ answer file (length work) (length out)
  given_answer_lem = rw (called.number, called.ops, called.temps, called.output)

  pub given_room : 6 * n.ops ≤ length out'
  given_room = parts_room file (length work) (length out) called.ops called.output

  -- the words that are checked to be zero are
  pub work_zero : all_zero work' ≡ true
  work_zero = ap all_zero called.cleared ∙ zeros (length work)

  pub given_recorded : (text : List ℕ)
      → recorded_zero text (given_answer n out') ≡ recorded text (answer file (length work) (length out))
  unfolding recorded_zero
  given_recorded text =
      ap (recorded_zero text) given_answer_lem
      ∙ ap (λ (z : Bool). recorded text (answer file (length work) (length out)) && z) (answer_rest file (length work) (length out))
      ∙ and-true (recorded text (answer file (length work) (length out)))

-- ---- the words lent

module _ (text file : List ℕ) (work room : ℕ) where
  pub lent_over_work : work_words < work → false ≡ lent_holds text file work room
  unfolding lent_holds
  lent_over_work h = rw (lt-leb work work_words h)

  pub lent_over_room : work_words < room → false ≡ lent_holds text file work room
  unfolding lent_holds
  lent_over_room h = rw (lt-leb room work_words h) (sym (and-false (leb work work_words)))

  pub lent_recorded : {w o : ℕ} {r : Bool} → work ≤ work_words → room ≤ work_words → work ≡ w → room ≡ o
      → r ≡ recorded text (answer file w o) → r ≡ lent_holds text file work room
  unfolding lent_holds
  lent_recorded h k w o e = rw (le-leb work work_words h, le-leb room work_words k, w, o) e

-- ---- the parts of a vector

module _ (text file : List ℕ) {work work-rest room room-rest answer-text : List ℕ} {n m : ℕ} {r : Bool} where
  pub asks_lent : work ≡ after (bytes "\nlent ") text → ReadsNumber work n work-rest → room ≡ after (bytes " ") work-rest
      → ReadsNumber room m room-rest → answer-text ≡ after (bytes "\n") room-rest → r ≡ lent_holds answer-text file n m
      → r ≡ asks text file
  unfolding asks
  asks_lent w works e rooms t h = rw (works.number, rooms.number, t, rooms.left, e, works.left, w) at h

-- what is read is at the start of the file
read_first : (zeros bs : List ℕ) {n : ℕ} {file : List ℕ} → n ≡ length bs → file ≡ sets zeros 0 bs → n ≤ length file
    → take n file ≡ bs
read_first zeros bs {n} {file} e f h =
    let room : length bs ≤ length zeros = omega (arith, ap length f, length-sets zeros 0 bs) in
    ap₂ take e f ∙ sets_first bs zeros room

module _ (text zeros : List ℕ) {sheet rest : List ℕ} {n : ℕ} {file : List ℕ} {r : Bool} where
  pub holds_asks : length zeros ≡ file_limit + 1 → sheet ≡ after (bytes "sheet ") text → ReadsBytes sheet zeros n file rest
      → n ≤ length file → r ≡ asks rest (take n file) → r ≡ holds text
  unfolding holds
  holds_asks z s read room h =
      let first = read_first zeros (bytes_of (length zeros) sheet) read.count read.written room in
      rw (first, read.left, read.count, z, s) at h
