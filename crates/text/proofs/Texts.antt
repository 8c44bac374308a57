-- Texts written one after another. Assumes nothing.
use Rattle.std.proofs.Common.{◌≡◌, ℕ, zero, suc, ◌+◌, ◌*◌, ◌^◌, ◌<◌, ◌≤◌, List, []}
use Rattle.std.proofs.Common.{◌∷◌, ◌++◌, length, get_or, take, drop, append_assoc, refl, sym, ap, ap₂, ◌∙◌, arith}
use Rattle.std.proofs.lemmas.List.{length-append, get_or-take, get_or-drop}
use Rattle.std.specs.Fmt.{decimal as std_decimal}
use Rattle.std.specs.Simd.{first_chunks}
use Rattle.std.proofs.lemmas.Fmt.{AppendsLastDigit, decimal_from_appends, length-decimal-le}
use lib.Seq.{sets, sets-eq, length-sets, take_at, drop-drop}
use lib.ListN.{set}
use native.Mathlib.Nat.{add-zero}
use native.Mathlib.Numerals.{add-one}
use borrow.Author.Tests.{lt-ltb, le-ltb, ne_eqb}
use borrow.Rule.Slice.PartMut.{put_mid}
use Rattle.limits.specs.Limits.{line_limit}
use Rattle.operation.specs.Names.{bytes}
use Rattle.definitions.specs.Operations.{Temp, Ret}
use Rattle.definitions.specs.Text.{decimal_below, decimal, register_text, place_text, newline, answer_text}
use Rattle.symbol.specs.declared.Loc.{Loc}
use Rattle.definitions.specs.Answer.{Answer, answer}
use Rattle.text.specs.declared.Text.{Text}
use Rattle.text.specs.Text.{HasRoom, Adds}
use Rattle.text.specs.Line.{words_text, counts_text, refused_text, line_from, line_at, lines_of, answer_of, WritesAnswer}
use Rattle.text.proofs.Whole.{answer_text_accepted, answer_text_refused, answer_roomy}

pub sets_after : (us vs ws : List ℕ) (i : ℕ) → sets (sets ws i us) (i + length us) vs ≡ sets ws i (us ++ vs)
sets_after [] vs ws i = ap (λ (k : ℕ). sets ws k vs) (add-zero i)
sets_after (u ∷ us) vs ws i =
    let e : i + suc (length us) ≡ suc i + length us = omega arith in rw e (sets_after us vs (set ws i u) (suc i))

pub sets_first : (us ws : List ℕ) → length us ≤ length ws → take (length us) (sets ws 0 us) ≡ us
sets_first us ws h = ap (take (length us)) (sets-eq us ws 0 (omega arith)) ∙ take_at us _ (length us) refl

module _ {l : Text} where
  pub adds_then : {m r : Text} {xs ys : List ℕ} {j k : ℕ} → Adds l xs j m → Adds m ys k r → Adds l (xs ++ ys) (j + k) r
  adds_then {m} {r} {xs} {ys} p q =
      record {
        lent = q.lent ∙ p.lent;
        whole = q.whole ∙ rw (p.whole, p.after) (sets_after xs ys l.bytes.now l.len);
        after = omega (arith, p.after, q.after, length-append xs ys);
        room = q.room ∙ p.room;
        within = omega (arith, p.within, q.within, length-append xs ys);
      }

  pub adds_within : {r : Text} {xs : List ℕ} {j : ℕ} (k : ℕ) → j ≤ k → Adds l xs j r → Adds l xs k r
  adds_within k h p = record { lent = p.lent; whole = p.whole; after = p.after; room = p.room; within = omega (arith, p.within) }

  pub adds_as : {r : Text} {xs ys : List ℕ} {j k : ℕ} → xs ≡ ys → j ≤ k → Adds l xs j r → Adds l ys k r
  adds_as {k = k} e h p = rw e at (adds_within k h p)

  pub adds_ends : {r x : Text} {xs : List ℕ} {k : ℕ} → Adds l xs k r → x ≡ r → Adds l xs k x
  adds_ends p e = rw e p

  pub lines_next : {m r : Text} (ws : List ℕ) (i : ℕ) {j : ℕ} → j ≤ line_limit → Adds l (lines_of ws i) (line_limit * i) m
      → Adds m (line_at ws i) j r → Adds l (lines_of ws (i + 1)) (line_limit * (i + 1)) r
  unfolding lines_of
  lines_next ws i h p q = rw add-one (adds_within (line_limit * suc i) (omega arith) (adds_then p q))

  pub lines_none : (ws : List ℕ) → Adds l (lines_of ws 0) (line_limit * 0) l
  unfolding lines_of
  lines_none ws = record { lent = refl; whole = refl; after = omega arith; room = refl; within = omega arith }

-- what is pushed
put_sets : (bs s ys : List ℕ) (at : ℕ) {k : ℕ} → ys ≡ s → k ≡ length s → at + length s ≤ length bs
    → put_mid at k bs ys ≡ sets bs at s
put_sets bs s ys at e n h =
    rw (e, n, drop-drop (length s) at bs, ← append_assoc (take at bs) s (drop (at + length s) bs)) (sym (sets-eq s bs at h))

pub pushed : (l : Text) (s ys : List ℕ) {k : ℕ} → HasRoom l (length s) → ys ≡ s → k ≡ length s
    → Adds l s (length s) (record { bytes = record l.bytes { now = put_mid l.len k l.bytes.now ys }; len = l.len + length s })
pushed l s ys h e n = record {
  lent = refl;
  whole = put_sets l.bytes.now s ys l.len e n h;
  after = refl;
  room = ap length (put_sets l.bytes.now s ys l.len e n h) ∙ length-sets l.bytes.now l.len s;
  within = omega arith;
}

-- ---- six words a line

-- run i of words
run_lem : (k i : ℕ) (ws : List ℕ) → i < k → get_or (first_chunks 6 k ws) i [] ≡ take 6 (drop (6 * i) ws)
run_lem zero i ws h = absurd (omega arith)
run_lem (suc k) zero ws h = refl
run_lem (suc k) (suc i) ws h =
    let after : 6 * suc i ≡ 6 + 6 * i = omega arith in
    run_lem k i (drop 6 ws) (omega arith) ∙ ap (take 6) (drop-drop (6 * i) 6 ws ∙ ap (λ (n : ℕ). drop n ws) (sym after))

-- has the text of the words from a place on
module _ (ws : List ℕ) (at : ℕ) where
  run_word : (j : ℕ) → j < 6 → get_or (take 6 (drop at ws)) j 0 ≡ get_or ws (at + j) 0
  run_word j h = get_or-take 6 (drop at ws) j 0 h ∙ get_or-drop at ws j 0

  run_text : words_text (take 6 (drop at ws)) ++ newline ≡ line_from ws at
  run_text =
      let first = run_word 0 (omega arith) ∙ ap (λ (n : ℕ). get_or ws n 0) (add-zero at) in
      rw (
        first,
        run_word 1 (omega arith),
        run_word 2 (omega arith),
        run_word 3 (omega arith),
        run_word 4 (omega arith),
        run_word 5 (omega arith),
      )

-- which is the line of operation i
pub run_line : (n k i : ℕ) (ws : List ℕ) {runs : List (List ℕ)} → runs ≡ first_chunks 6 k ws → i < n → i < k
    → words_text (get_or (take n runs) i []) ++ newline ≡ line_at ws i
run_line n k i ws {runs} e h l =
    let run = get_or-take n runs i [] h ∙ ap (λ (rs : List (List ℕ)). get_or rs i []) e ∙ run_lem k i ws l in
    rw run (run_text ws (6 * i))

-- ---- numbers

appends_digits : AppendsLastDigit decimal_below
unfolding decimal_below
appends_digits = record { one = λ k n h. rw (lt-ltb n 10 h); more = λ k n h. rw (le-ltb n 10 h) }

-- a number's text is std's
pub decimal_lem : (n : ℕ) → n < 2 ^ 32 → std_decimal n ≡ decimal n
decimal_lem n h =
    let short = length-decimal-le 10 n (omega arith) (omega arith) (omega arith) in
    sym (decimal_from_appends decimal_below appends_digits 10 n (omega arith) short)

-- ---- registers

module _ {l x : Text} where
  pub register_temp : (r : ℕ) → r ≡ Temp → Adds l (bytes " t") 2 x → Adds l (register_text r) 12 x
  register_temp r e p = rw e (adds_within 12 (omega arith) p)

  pub register_ret : (r : ℕ) → r ≡ Ret → Adds l (bytes " v") 2 x → Adds l (register_text r) 12 x
  register_ret r e p = rw e (adds_within 12 (omega arith) p)

  pub register_number : (r : ℕ) → (r ≡ Temp → ⊥) → (r ≡ Ret → ⊥) → Adds l (bytes " r" ++ decimal r) 12 x
      → Adds l (register_text r) 12 x
  register_number r t v p = rw (ne_eqb r Temp t, ne_eqb r Ret v) p

  pub place_text_lem : {p q : Loc} {k : ℕ} → p ≡ q → Adds l (place_text q) k x → Adds l (place_text p) k x
  place_text_lem e h = rw e h

-- ---- the text of an answer

module _ {l : Text} (t : Text) {k : ℕ} {new : List ℕ} (z : l.len ≡ 0) (n : new ≡ t.bytes.now)
    (fits : k ≤ length l.bytes.now) where
  writes_answer : (a : Answer) {xs : List ℕ} → answer_text a ≡ xs → Adds l xs k t → WritesAnswer a l.bytes.now new t.len
  writes_answer a e q =
      let text = answer_text a in
      let p : Adds l text k t = rw e q in
      let count : t.len ≡ length text = omega (arith, p.after) in
      let whole : new ≡ sets l.bytes.now 0 text = n ∙ p.whole ∙ ap (λ (i : ℕ). sets l.bytes.now i text) z in
      let first : take t.len new ≡ text = ap₂ take count whole ∙ sets_first text l.bytes.now (omega (arith, p.within)) in
      record {
        whole = whole;
        count = count;
        first = first;
        inside = omega (arith, p.within, p.room, ap length n);
        counted = count ∙ sym (ap length first);
      }

  module _ (number ops temps : ℕ) (out : List ℕ) where
    pub writes_refused : (number ≡ 0 → ⊥) → Adds l (refused_text number) k t
        → WritesAnswer (answer_of number ops temps out) l.bytes.now new t.len
    writes_refused ne p = let a = answer_of number ops temps out in writes_answer a (answer_text_refused a ne) p

    pub writes_accepted : number ≡ 0 → 6 * ops ≤ length out → Adds l (counts_text ops temps ++ lines_of out ops) k t
        → WritesAnswer (answer_of number ops temps out) l.bytes.now new t.len
    writes_accepted e h p =
        let a = answer_of number ops temps out in
        writes_answer a (answer_text_accepted a e (record { room = h })) p

-- the same by the answer's parts: the numbers that a caller has, and the words of the output
module _ (file : List ℕ) (work room : ℕ) {n : ℕ} {out : List ℕ} (ops : n ≡ (answer file work room).ops)
    (output : out ≡ (answer file work room).output) where
  pub parts_room : 6 * n ≤ length out
  parts_room = rw (ops, output) (answer_roomy file work room).room

  pub parts_written : {k t r : ℕ} {old new : List ℕ} → k ≡ (answer file work room).number → t ≡ (answer file work room).temps
      → WritesAnswer (answer_of k n t out) old new r → WritesAnswer (answer file work room) old new r
  parts_written {k} {t} number temps w =
      let whole : answer_of k n t out ≡ answer file work room = rw (number, ops, temps, output) in
      rw whole at w
