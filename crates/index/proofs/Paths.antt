-- A search goes down the path of its mix, and meets every item on it; a new item is put where its path ends. Assumes nothing.
use mathlib.Core.Path.{◌≡◌, refl, ap, ◌∙◌}
use mathlib.Core.Bool.{Bool, true, false}
use mathlib.Core.List.{List}
use Prim.Native.Nat.{ℕ, zero, suc, ◌-◌, ◌/◌, ◌<◌}
use native.Mathlib.Omega.{arith}
use lib.ListN.{length, set}
use lib.Seq.{get_or-set_same, get_or-set_other}
use lib.Dec.{eqb}
use borrow.Author.Tests.{eqb-true, eqb-false}
use Rattle.index.specs.Paths.{slot_count, slot, bits_after, under, entry, word_after, Passes, Meets}

-- an item stands somewhere
pub record Stands (links : List ℕ) (item : ℕ) : Type 0 where
  pub word : ℕ
  pub here : entry links word ≡ suc item

-- ---- the search for m has come to the word `at`, with these bits left, and has passed only items that it missed

pub record Searching (Missed : ℕ → Type 0) (links : List ℕ) (m at bits : ℕ) : Type 0 where
  pub steps : ℕ
  pub word : at ≡ word_after links m steps
  pub rest : bits ≡ bits_after m steps
  pub passes : Passes links m steps
  pub missed : (t : ℕ) → t < steps → Missed (entry links (word_after links m t) - 1)

module _ (Missed : ℕ → Type 0) (links : List ℕ) (m : ℕ) where
  pub search_starts : {at bits : ℕ} → at ≡ slot m → bits ≡ m / slot_count → Searching Missed links m at bits
  unfolding word_after bits_after
  search_starts e f =
      record { steps = 0; word = e; rest = f; passes = λ t l. absurd (omega arith); missed = λ t l. absurd (omega arith) }

  -- what holds of each step before, and of this one
  steps_more : (P : ℕ → Type 0) (steps : ℕ) → ((t : ℕ) → t < steps → P t) → P steps → (t : ℕ) → t < suc steps → P t
  steps_more P steps before here t l = go (eqb t steps) refl
    where
      go : (b : Bool) → eqb t steps ≡ b → P t
      go true e = rw (eqb-true t steps e) here
      go false e = before t (omega (arith, eqb-false t steps e))

  module _ {at bits : ℕ} (s : Searching Missed links m at bits) where
    -- it goes on past an item
    pub search_next : {at' bits' : ℕ} → 0 < entry links at → Missed (entry links at - 1) →
        at' ≡ under (entry links at - 1) bits →
        bits' ≡ bits / 2 → Searching Missed links m at' bits'
    unfolding word_after bits_after
    search_next filled here e f =
        record {
          steps = suc s.steps;
          word = rw (← s.word, ← s.rest) e;
          rest = rw (← s.rest) f;
          passes = steps_more _ s.steps s.passes (rw (← s.word) filled);
          missed = steps_more _ s.steps s.missed (rw (← s.word) here);
        }

    -- at a free word it has met every item of its path
    pub search_ends : {item : ℕ} → entry links at ≡ 0 → Meets links m item → Missed item
    search_ends {item} free x =
        let down : suc item - 1 ≡ item = omega arith in
        rw down at (rw x.here at (s.missed x.steps before))
      where
        free_here : entry links (word_after links m s.steps) ≡ 0
        free_here = rw s.word at free

        not_after : s.steps < x.steps → ⊥
        not_after l = omega (arith, x.passes s.steps l, free_here)

        not_here : x.steps ≡ s.steps → ⊥
        not_here e = omega (arith, rw e at x.here, free_here)

        before : x.steps < s.steps
        before = omega (arith, not_after, not_here)

    -- what stands where it has come to is met
    pub search_meets : {item : ℕ} → entry links at ≡ suc item → Meets links m item
    search_meets e = record { steps = s.steps; passes = s.passes; here = rw s.word at e }

    -- it comes to a word under an item past that item only
    pub search_under : (item b : ℕ) → at ≡ under item b → Stands links item
    unfolding word_after
    search_under item b w = go s.steps s.word s.passes
      where
        go : (t : ℕ) → at ≡ word_after links m t → Passes links m t → Stands links item
        go zero e passed = absurd (omega arith)
        go (suc t) e passed = record { word = word_after links m t; here = omega (arith, passed t (omega arith)) }

-- ---- an item is put at a free word

module _ (links : List ℕ) (at item : ℕ) (free : entry links at ≡ 0) where
  abbrev linked : List ℕ
  linked = set links at (suc item)

  pub entry_stays : (p : ℕ) → 0 < entry links p → entry linked p ≡ entry links p
  entry_stays p filled = get_or-set_other links at p (suc item) 0 (λ e. omega (arith, ap (entry links) e))

  module _ (m : ℕ) where
    word_stays : (t : ℕ) → Passes links m t → word_after linked m t ≡ word_after links m t
    unfolding word_after
    word_stays zero passed = refl
    word_stays (suc t) passed =
        let before = word_stays t (λ u l. passed u (omega arith)) in
        ap (λ (e : ℕ). under (e - 1) (bits_after m t)) (ap (entry linked) before ∙ entry_stays _ (passed t (omega arith)))

    item_stays : (t : ℕ) → Passes links m t → 0 < entry links (word_after links m t) →
        entry linked (word_after linked m t) ≡ entry links (word_after links m t)
    item_stays t passed filled = ap (entry linked) (word_stays t passed) ∙ entry_stays _ filled

    passes_stays : (t : ℕ) → Passes links m t → Passes linked m t
    passes_stays t passed u l = omega (arith, item_stays u (λ v k. passed v (omega arith)) (passed u l), passed u l)

    pub meets_stays : {other : ℕ} → Meets links m other → Meets linked m other
    meets_stays x =
        record {
          steps = x.steps;
          passes = passes_stays x.steps x.passes;
          here = item_stays x.steps x.passes (omega (arith, x.here)) ∙ x.here;
        }

    pub meets_new : {Missed : ℕ → Type 0} {bits : ℕ} → Searching Missed links m at bits → at < length links →
        Meets linked m item
    meets_new s inside =
        let passed = s.passes in
        record {
          steps = s.steps;
          passes = passes_stays s.steps passed;
          here =
              ap (entry linked) (word_stays s.steps passed)
              ∙ rw (← s.word) (get_or-set_same links at (suc item) 0 inside);
        }
