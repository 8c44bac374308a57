-- The recorded vectors as text: what a text begins with, and how long it is (model/README.md has the format).
use Rattle.std.specs.Prelude.{ℕ, zero, suc, ◌+◌, ◌-◌, ◌*◌, Bool, true, false, cond, not, ◌&&◌, nat_eq}
use Rattle.std.specs.Prelude.{List, [], ◌∷◌, ◌≡◌, eqb, leb, ltb, length, drop}
use Rattle.std.specs.List.{starts_with}
use Rattle.std.proofs.lemmas.List.Edits.{sets}
use Rattle.limits.specs.Limits.{work_words}

-- a text begins with the bytes s
unfoldable pub begins : (s text : List ℕ) → Bool
begins s text = starts_with nat_eq text s

-- what is left after them; where it does not begin with them, nothing
abbrev pub after : (s text : List ℕ) → List ℕ
after s text = cond (begins s text) (drop (length s) text) []

-- 'end' and a newline
abbrev pub end_line : List ℕ
end_line = 101 ∷ 110 ∷ 100 ∷ 10 ∷ []

-- the length of a text's first line, with its newline
unfoldable pub line_length : List ℕ → ℕ
line_length [] = 0
line_length (b ∷ bs) = cond (eqb b 10) 1 (suc (line_length bs))

-- of the comment lines that it begins with; or of the rest of one and those after it
unfoldable pub comments_length : (inside : Bool) → List ℕ → ℕ
comments_length inside [] = 0
comments_length true (b ∷ bs) = suc (comments_length (not (eqb b 10)) bs)
comments_length false (b ∷ bs) = cond (eqb b 35) (suc (comments_length true bs)) 0

-- of its lines up to the first line 'end'; or of the rest of a line and those after it
unfoldable pub end_length : (inside : Bool) → List ℕ → ℕ
end_length inside [] = 0
end_length true (b ∷ bs) = suc (end_length (not (eqb b 10)) bs)
end_length false (b ∷ bs) = cond (begins end_line (b ∷ bs)) 4 (suc (end_length (not (eqb b 10)) bs))

-- the value of a hexadecimal digit, and 16 of any other byte
abbrev pub digit_of : ℕ → ℕ
digit_of b = cond (leb 48 b && leb b 57) (b - 48) (cond (leb 97 b && leb b 102) (b - 97 + 10) 16)

-- the byte that a text begins with, in two digits; 256 if there is none
unfoldable pub byte_of : List ℕ → ℕ
byte_of [] = 256
byte_of (h ∷ []) = 256
byte_of (h ∷ l ∷ bs) = cond (leb (digit_of h) 15 && leb (digit_of l) 15) (digit_of h * 16 + digit_of l) 256

-- all that it begins with, so many at most
unfoldable pub bytes_of : (most : ℕ) → List ℕ → List ℕ
bytes_of zero text = []
bytes_of (suc n) text = cond (ltb (byte_of text) 256) (byte_of text ∷ bytes_of n (drop 2 text)) []

-- a decimal number whose digits so far say n, as far as it is at most 16,384; and how many digits more there are
unfoldable pub number_from : (n : ℕ) → List ℕ → ℕ
number_from n [] = n
number_from n (b ∷ bs) = cond (leb (digit_of b) 9 && leb n work_words) (number_from (n * 10 + digit_of b) bs) n

unfoldable pub digits_from : (n : ℕ) → List ℕ → ℕ
digits_from n [] = 0
digits_from n (b ∷ bs) = cond (leb (digit_of b) 9 && leb n work_words) (suc (digits_from (n * 10 + digit_of b) bs)) 0

-- a number is read: n, and what is left after its digits
pub record ReadsNumber (text : List ℕ) (n : ℕ) (rest : List ℕ) : Type 0 where
  pub number : n ≡ number_from 0 text
  pub left : rest ≡ drop (digits_from 0 text) text

-- bytes are read into the file old: n of them, and what is left after them
pub record ReadsBytes (text old : List ℕ) (n : ℕ) (new rest : List ℕ) : Type 0 where
  pub count : n ≡ length (bytes_of (length old) text)
  pub written : new ≡ sets old 0 (bytes_of (length old) text)
  pub left : rest ≡ drop (2 * n) text
