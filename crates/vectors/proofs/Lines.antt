-- Lines of a text: the first one, comments, and those up to a line 'end'. Assumes nothing.
use Rattle.std.proofs.Common.{◌≡◌, ℕ, suc, ◌+◌, ◌<◌, Bool, true, false, cond, not, List, [], ◌∷◌, ◌++◌}
use Rattle.std.proofs.Common.{Some, None, length, get_or, drop, nat_eq, nat_lt, refl, sym, ◌∙◌, arith}
use Rattle.std.specs.List.{position, position_or_len}
use Rattle.std.proofs.lemmas.Bool.Decides.{Decides-eqb}
use Rattle.std.proofs.lemmas.Grind.{common_steps}
use Rattle.std.proofs.lemmas.Slice.Eq.{starts_is}
use Rattle.std.proofs.lemmas.List.{length-drop}
use lib.Dec.{eqb}
use lib.Seq.{drop-cons, drop-drop}
use Rattle.vectors.specs.Vectors.{begins, end_line, line_length, comments_length, end_length}

-- ---- the first line

-- from a byte on it ends there, or goes on
line_from_lem : (all : List ℕ) (i : ℕ) → i < length all
    → line_length (drop i all) ≡ cond (eqb (get_or all i 0) 10) 1 (suc (line_length (drop (suc i) all)))
unfolding line_length
line_from_lem all i inside = rw (drop-cons all i 0 inside)

abbrev pub is_newline : ℕ → Bool
is_newline b = nat_eq b 10

-- a line ends with the first newline, and otherwise where the text does
abbrev to_newline : List ℕ → ℕ
to_newline text = cond (nat_lt (position_or_len is_newline text) (length text)) (position_or_len is_newline text + 1) (length text)

line_at : (text : List ℕ) → line_length text ≡ to_newline text
unfolding line_length
line_at [] = refl
line_at (b ∷ bs) = go (nat_eq b 10) (line_at bs)
  where
    go : (e : Bool) → line_length bs ≡ to_newline bs
        → let found = cond (not e) (1 + position_or_len is_newline bs) 0 in
        cond e 1 (suc (line_length bs)) ≡ cond (nat_lt found (suc (length bs))) (found + 1) (suc (length bs))
    go true h = grind arith
    go false h = grind arith

pub line_found : (text : List ℕ) (i : ℕ) → Some i ≡ position is_newline text → i + 1 ≡ line_length text
line_found text i e = grind (arith, line_at text)

pub line_missing : (text : List ℕ) → None ≡ position is_newline text → length text ≡ line_length text
line_missing text e = grind (arith, line_at text)

pub line_shorter : (text : List ℕ) → 0 < length text → length (drop (line_length text) text) < length text
unfolding line_length
line_shorter [] h = absurd (omega arith)
line_shorter (b ∷ bs) h = go (nat_eq b 10)
  where
    go : (e : Bool) → length (drop (cond e 1 (suc (line_length bs))) (b ∷ bs)) < suc (length bs)
    go true = omega arith
    go false = omega (arith, length-drop (line_length bs) bs)

-- ---- what counts the rest of a line counts on from the next one

module _ (f : Bool → List ℕ → ℕ) (none : (inside : Bool) → f inside [] ≡ 0)
    (rest : (b : ℕ) (bs : List ℕ) → f true (b ∷ bs) ≡ suc (f (not (nat_eq b 10)) bs)) where
  line_then : (b : ℕ) (bs : List ℕ) (e : Bool) → f true bs ≡ line_length bs + f false (drop (line_length bs) bs)
      → suc (f (not e) bs) ≡ cond e 1 (suc (line_length bs)) + f false (drop (cond e 1 (suc (line_length bs))) (b ∷ bs))
  line_then b bs true h = omega arith
  line_then b bs false h = omega (arith, h)

  rest_then : (text : List ℕ) → f true text ≡ line_length text + f false (drop (line_length text) text)
  unfolding line_length
  rest_then [] = rw (none true, none false)
  rest_then (b ∷ bs) = rest b bs ∙ line_then b bs (nat_eq b 10) (rest_then bs)

  -- so far as a line is counted whole, what is left after it is left after all
  counts_on : (text : List ℕ) {next : List ℕ} → next ≡ drop (line_length text) text → f false text ≡ f true text
      → drop (f false next) next ≡ drop (f false text) text
  counts_on text e whole = rw (e, drop-drop (f false (drop (line_length text) text)) (line_length text) text, whole, rest_then text)

-- ---- comments

abbrev hash : List ℕ
hash = 35 ∷ []

pub no_comment : (text : List ℕ) → false ≡ begins hash text → comments_length false text ≡ 0
unfolding comments_length begins
no_comment [] e = refl
no_comment (b ∷ bs) e = grind (arith, common_steps)

pub comment_passed : (text : List ℕ) {next : List ℕ} → true ≡ begins hash text → next ≡ drop (line_length text) text
    → drop (comments_length false next) next ≡ drop (comments_length false text) text
unfolding comments_length begins
comment_passed text e after =
    let whole : text ≡ 35 ∷ drop 1 text = (starts_is Decides-eqb text hash _ e).0 refl in
    counts_on comments_length (λ (inside : Bool). refl) (λ b bs. refl) text after (rw whole)

-- ---- lines up to 'end'

pub line_passed : (text : List ℕ) {next : List ℕ} → false ≡ begins end_line text → next ≡ drop (line_length text) text
    → drop (end_length false next) next ≡ drop (end_length false text) text
unfolding end_length
line_passed text e after = counts_on end_length (λ (inside : Bool). refl) (λ b bs. refl) text after (other text e)
  where
    other : (text : List ℕ) → false ≡ begins end_line text → end_length false text ≡ end_length true text
    other [] e = refl
    other (b ∷ bs) e = rw (← e)

-- the line 'end' is counted whole
end_line_lem : (text : List ℕ) → begins end_line text ≡ true → line_length text ≡ end_length false text
unfolding line_length end_length begins
end_line_lem text e =
    let whole : text ≡ end_line ++ drop 4 text = (starts_is Decides-eqb text end_line _ (sym e)).0 refl in
    rw whole

pub line_is_end : (text : List ℕ) → true ≡ begins end_line text → line_length text ≡ end_length false text
line_is_end text e = end_line_lem text (sym e)

pub end_shorter : (text : List ℕ) → 0 < length text → length (drop (end_length false text) text) < length text
unfolding end_length
end_shorter [] h = absurd (omega arith)
end_shorter (b ∷ bs) h = go (begins end_line (b ∷ bs))
  where
    go : (e : Bool) → length (drop (cond e 4 (suc (end_length (not (nat_eq b 10)) bs))) (b ∷ bs)) < suc (length bs)
    go true = omega (arith, length-drop 3 bs)
    go false = omega (arith, length-drop (end_length (not (nat_eq b 10)) bs) bs)
