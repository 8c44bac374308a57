-- What digits, bytes and numbers a text writes. Assumes nothing.
use Rattle.std.proofs.Common.{◌≡◌, ℕ, zero, suc, ◌+◌, ◌-◌, ◌*◌, ◌<◌, ◌≤◌, Bool, true, false, cond, ◌&&◌}
use Rattle.std.proofs.Common.{List, [], ◌∷◌, length, get_or, drop, refl, ap, subst, ◌∙◌, arith}
use Rattle.std.specs.Char.{is_ascii_digit}
use Rattle.std.proofs.lemmas.Bool.Decides.{nat_tests}
use Rattle.std.proofs.lemmas.List.Edits.{sets}
use Rattle.std.proofs.lemmas.List.{length-set}
use lib.ListN.{set, drop_of_length-le}
use lib.Seq.{drop-drop}
use mathlib.Core.Bool.{and-false}
use lib.Dec.{leb}
use native.Mathlib.Numerals.{add-one}
use borrow.Author.Tests.{lt-ltb, le-ltb, lt-leb, le-leb}
use Rattle.limits.specs.Limits.{work_words}
use Rattle.vectors.specs.Vectors.{digit_of, byte_of, bytes_of, number_from, digits_from, ReadsNumber, ReadsBytes}

-- ---- a byte

pub byte_short : (text : List ℕ) → length text < 2 → 256 ≡ byte_of text
unfolding byte_of
byte_short [] h = refl
byte_short (b ∷ []) h = refl
byte_short (b ∷ c ∷ bs) h = absurd (omega arith)

pub byte_no_high : (text : List ℕ) → 16 ≤ digit_of (get_or text 0 0) → 256 ≡ byte_of text
unfolding byte_of
byte_no_high [] h = refl
byte_no_high (b ∷ []) h = refl
byte_no_high (b ∷ c ∷ bs) h = rw (lt-leb (digit_of b) 15 h) refl

pub byte_no_low : (text : List ℕ) → 16 ≤ digit_of (get_or text 1 0) → 256 ≡ byte_of text
unfolding byte_of
byte_no_low [] h = refl
byte_no_low (b ∷ []) h = refl
byte_no_low (b ∷ c ∷ bs) h = rw (lt-leb (digit_of c) 15 h, and-false (leb (digit_of b) 15)) refl

pub byte_both : (text : List ℕ) → 2 ≤ length text → digit_of (get_or text 0 0) < 16 → digit_of (get_or text 1 0) < 16
    → byte_of text ≡ digit_of (get_or text 0 0) * 16 + digit_of (get_or text 1 0)
unfolding byte_of
byte_both [] r h l = absurd (omega arith)
byte_both (b ∷ []) r h l = absurd (omega arith)
byte_both (b ∷ c ∷ bs) r h l = rw (le-leb (digit_of b) 15 (omega arith), le-leb (digit_of c) 15 (omega arith)) refl

-- a byte as it is written, or why none is
pub ruleset byte_written = (byte_short, byte_no_high, byte_no_low, byte_both)

-- ---- bytes

module _ (text : List ℕ) where
  bytes_none : (k : ℕ) → 256 ≤ byte_of text → bytes_of k text ≡ []
  unfolding bytes_of
  bytes_none zero h = refl
  bytes_none (suc k) h = rw (le-ltb (byte_of text) 256 h) refl

  bytes_more : (k : ℕ) → byte_of text < 256 → bytes_of (suc k) text ≡ byte_of text ∷ bytes_of k (drop 2 text)
  unfolding bytes_of
  bytes_more k h = rw (lt-ltb (byte_of text) 256 h) refl

-- n bytes are in the file so far, and the text that is left writes the rest
pub record BytesSoFar (old file₀ : List ℕ) (n : ℕ) (file text : List ℕ) : Type 0 where
  pub same : length file ≡ length file₀
  pub count : n + length (bytes_of (length file₀ - n) text) ≡ length (bytes_of (length file₀) old)
  pub written : sets file n (bytes_of (length file₀ - n) text) ≡ sets file₀ 0 (bytes_of (length file₀) old)
  pub rest : text ≡ drop (2 * n) old

module _ {old file₀ : List ℕ} {n : ℕ} {file text : List ℕ} (so_far : BytesSoFar old file₀ n file text) where
  ended : bytes_of (length file₀ - n) text ≡ [] → ReadsBytes old file₀ n file text
  ended e =
      let counted = rw e at so_far.count in
      record { count = omega (arith, counted); written = rw e at so_far.written; left = so_far.rest }

  pub bytes_stop : 256 ≤ byte_of text → ReadsBytes old file₀ n file text
  bytes_stop h = ended (bytes_none text (length file₀ - n) h)

  pub bytes_full : {m : ℕ} → length file₀ ≤ n → n ≡ m → ReadsBytes old file₀ m file text
  unfolding bytes_of
  bytes_full h m =
      let e : length file₀ - n ≡ 0 = omega arith in
      subst (λ (k : ℕ). ReadsBytes old file₀ k file text) m (ended (ap (λ (k : ℕ). bytes_of k text) e))

  pub bytes_next : (b : ℕ) → n < length file₀ → b ≡ byte_of text → b < 256
      → BytesSoFar old file₀ (n + 1) (set file n b) (drop 2 text)
  bytes_next b room e h =
      let k = length file₀ - suc n in
      let one_less : length file₀ - n ≡ suc k = omega arith in
      let more : bytes_of (length file₀ - n) text ≡ b ∷ bytes_of k (drop 2 text) = rw (one_less, e) (bytes_more text k (rw e at h)) in
      let counted = rw more at so_far.count in
      let written = rw more at so_far.written in
      rw add-one (record {
        same = length-set file n b ∙ so_far.same;
        count = omega (arith, counted);
        written = written;
        rest = ap (drop 2) so_far.rest ∙ drop-drop 2 (2 * n) old ∙ ap (λ (k : ℕ). drop k old) (omega arith);
      })

-- ---- a number

-- the digits so far say n, small enough for one more; the text that is left says the rest of the number
pub record NumberSoFar (old : List ℕ) (n : ℕ) (text : List ℕ) : Type 0 where
  pub small : n ≤ 10 * work_words + 10
  pub number : number_from n text ≡ number_from 0 old
  pub rest : drop (digits_from n text) text ≡ drop (digits_from 0 old) old

-- what a step of the digits tests
abbrev goes_on : (n : ℕ) (text : List ℕ) → Bool
goes_on n text = leb (digit_of (get_or text 0 0)) 9 && leb n work_words

number_step_lem : (n : ℕ) (text : List ℕ) → 0 < length text → (number_from n text
    ≡ cond (goes_on n text) (number_from (n * 10 + digit_of (get_or text 0 0)) (drop 1 text)) n)
    × (digits_from n text ≡ cond (goes_on n text) (suc (digits_from (n * 10 + digit_of (get_or text 0 0)) (drop 1 text))) 0)
unfolding number_from digits_from
number_step_lem n [] h = absurd (omega arith)
number_step_lem n (b ∷ bs) h = (refl, refl)

drop_one : (text : List ℕ) (k : ℕ) → drop k (drop 1 text) ≡ drop (suc k) text
drop_one [] zero = refl
drop_one [] (suc k) = refl
drop_one (b ∷ bs) k = refl

digit_lem : (b : ℕ) → true ≡ is_ascii_digit b → (digit_of b ≡ b - 48) × (b - 48 ≤ 9)
digit_lem b e = grind (arith, nat_tests)

no_digit_lem : (b : ℕ) → false ≡ is_ascii_digit b → 9 < digit_of b
no_digit_lem b e = grind (arith, nat_tests)

module _ {old : List ℕ} {n : ℕ} (text : List ℕ) (so_far : NumberSoFar old n text) where
  no_more : number_from n text ≡ n → digits_from n text ≡ 0 → ReadsNumber old n text
  no_more e d = record { number = rw e at so_far.number; left = rw d at so_far.rest }

  pub number_ends : length text ≡ 0 → ReadsNumber old n text
  unfolding number_from digits_from
  number_ends h = let e : text ≡ [] = drop_of_length-le text {i = 0} (omega arith) in no_more (rw e) (rw e)

  stops : goes_on n text ≡ false → ReadsNumber old n text
  stops e = go (length text) refl
    where
      go : (k : ℕ) → length text ≡ k → ReadsNumber old n text
      go zero h = number_ends h
      go (suc k) h = let step = number_step_lem n text (omega arith) in no_more (rw e at step.0) (rw e at step.1)

  pub number_over : work_words < n → ReadsNumber old n text
  number_over h = stops (rw (lt-leb n work_words h, and-false (leb (digit_of (get_or text 0 0)) 9)) refl)

  pub number_past : false ≡ is_ascii_digit (get_or text 0 0) → ReadsNumber old n text
  number_past h = let b = get_or text 0 0 in stops (rw (lt-leb (digit_of b) 9 (no_digit_lem b h)) refl)

  pub number_next : {m : ℕ} → 0 < length text → true ≡ is_ascii_digit (get_or text 0 0) → n ≤ work_words
      → m ≡ n * 10 + (get_or text 0 0 - 48) → NumberSoFar old m (drop 1 text)
  number_next {m} r h small e =
      let step = number_step_lem n text r in
      let b = get_or text 0 0 in
      let digit = digit_lem b h in
      let on : goes_on n text ≡ true = rw (digit.0, le-leb (b - 48) 9 digit.1, le-leb n work_words small) refl in
      let value : m ≡ n * 10 + digit_of b = rw digit.0 e in
      let number : number_from n text ≡ number_from m (drop 1 text) = step.0 ∙ rw (on, value) refl in
      let more : digits_from n text ≡ suc (digits_from m (drop 1 text)) = step.1 ∙ rw (on, value) refl in
      record { small = omega arith; number = rw number at so_far.number; rest = drop_one text _ ∙ rw more at so_far.rest }
