-- Runs of stores in a list (`sets`), and in a part of it. Assumes nothing.
use mathlib.Core.Path.{◌≡◌, refl, sym, ap, ◌∙◌}
use mathlib.Core.List.{List, [], ◌∷◌, ◌++◌, append-nil, append_assoc}
use mathlib.Core.Logic.{◌≢◌}
use Prim.Native.Nat.{ℕ, zero, suc, ◌+◌, ◌-◌, ◌<◌, ◌≤◌}
use native.Mathlib.Omega.{arith}
use native.Mathlib.Nat.{add-zero, zero-add, suc-add, add-suc}
use lib.ListN.{length, get_or, set, take, drop, replicate}
use borrow.Rule.Slice.PartMut.{put_mid}
use lib.ListN.{length-set, length-drop, length-replicate, drop_of_length-le, take-append-drop, get_or-append}
use lib.Seq.{drop-drop, sets, sets-eq, take_all, set_out, set_comm, length-take-le, get_or-append-add, get_or-set_other}

module _ {A : Type 0} where
  -- a store that lies apart from a run may come first
  set_below : (vs l : List A) (i j : ℕ) (x : A) → i < j → set (sets l j vs) i x ≡ sets (set l i x) j vs
  set_below [] l i j x h = refl
  set_below (v ∷ vs) l i j x h =
      let ne : j ≢ i = λ e. omega arith in
      set_below vs (set l j v) i (suc j) x (omega arith) ∙ ap (λ (m : List A). sets m (suc j) vs) (set_comm l j i v x ne)

  -- two runs apart exchange
  sets_apart : (us vs l : List A) (i j : ℕ) → i + length us ≤ j → sets (sets l i us) j vs ≡ sets (sets l j vs) i us
  sets_apart [] vs l i j h = refl
  sets_apart (u ∷ us) vs l i j h =
      sets_apart us vs (set l i u) (suc i) j (omega arith)
      ∙ ap (λ (m : List A). sets m (suc i) us) (sym (set_below vs l i j u (omega arith)))

  -- a run right after another, and right before it, is one run
  pub sets_after : (us vs l : List A) (i j : ℕ) → i + length us ≡ j → sets (sets l i us) j vs ≡ sets l i (us ++ vs)
  sets_after [] vs l i j h = ap (λ (k : ℕ). sets l k vs) (sym h ∙ add-zero i)
  sets_after (u ∷ us) vs l i j h = sets_after us vs (set l i u) (suc i) j (omega arith)

  pub sets_before : (us vs l : List A) (i j : ℕ) → i + length us ≡ j → sets (sets l j vs) i us ≡ sets l i (us ++ vs)
  sets_before us vs l i j h = sym (sets_apart us vs l i j (omega arith)) ∙ sets_after us vs l i j h

  -- a run past the end changes nothing
  pub sets_out : (vs l : List A) (i : ℕ) → length l ≤ i → sets l i vs ≡ l
  sets_out [] l i h = refl
  sets_out (v ∷ vs) l i h = ap (λ (m : List A). sets m (suc i) vs) (set_out l i v h) ∙ sets_out vs l (suc i) (omega arith)

  -- as much of a run as there is room for
  sets_cut : (k : ℕ) (vs l : List A) (i : ℕ) → i + k ≡ length l → sets l i (take k vs) ≡ sets l i vs
  sets_cut zero vs l i h = sym (sets_out vs l i (omega arith))
  sets_cut (suc k) [] l i h = refl
  sets_cut (suc k) (v ∷ vs) l i h = sets_cut k vs (set l i v) (suc i) (omega (arith, length-set {A = A}))

  -- what a part is exchanged for is stored there, and so is a run that is cut where the list ends
  pub part_stored : (l vs : List A) (a k : ℕ) {new : List A} → a + k ≤ length l → length new ≡ length (take k (drop a l))
      → new ≡ vs → put_mid a k l new ≡ sets l a vs
  part_stored l vs a k h n e =
      let size : length vs ≡ k = rw (← e) (omega (arith, n, length-take-le k (drop a l), length-drop a l)) in
      let rest : drop (a + length vs) l ≡ drop k (drop a l) = rw (size, drop-drop) in
      rw (e, ← rest) (sym (sets-eq vs l a (omega arith) ∙ append_assoc (take a l) vs (drop (a + length vs) l)))

  pub cut_stored : (l vs : List A) (a k : ℕ) {new : List A} → a + k ≡ length l → length new ≡ length (take k (drop a l))
      → new ≡ take k vs → put_mid a k l new ≡ sets l a vs
  cut_stored l vs a k h n e = part_stored l (take k vs) a k (omega arith) n e ∙ sets_cut k vs l a h

  -- a run word by word
  sets_next : (vs l : List A) (i k : ℕ) (d : A) → k < length vs
      → set (sets l i (take k vs)) (i + k) (get_or vs k d) ≡ sets l i (take (suc k) vs)
  sets_next [] l i k d h = absurd (omega arith)
  sets_next (v ∷ vs) l i zero d h = ap (λ (j : ℕ). set l j v) (add-zero i)
  sets_next (v ∷ vs) l i (suc k) d h =
      ap (λ (j : ℕ). set (sets (set l i v) (suc i) (take k vs)) j (get_or vs k d)) (add-suc i k ∙ sym (suc-add i k))
      ∙ sets_next vs (set l i v) (suc i) k d (omega arith)

  pub word_stored : (vs l : List A) (i k : ℕ) {part new : List A} (d : A) → k < length vs → part ≡ sets l i (take k vs)
      → new ≡ set part (i + k) (get_or vs k d) → new ≡ sets l i (take (k + 1) vs)
  word_stored vs l i k d h e f =
      let next : suc k ≡ k + 1 = omega arith in
      f ∙ ap (λ (m : List A). set m (i + k) (get_or vs k d)) e ∙ sets_next vs l i k d h ∙ ap (λ (n : ℕ). sets l i (take n vs)) next

  -- what stands before a run, and in it
  pub get_d_sets_below : (vs l : List A) (i j : ℕ) (d : A) → j < i → get_or (sets l i vs) j d ≡ get_or l j d
  get_d_sets_below [] l i j d h = refl
  get_d_sets_below (v ∷ vs) l i j d h =
      get_d_sets_below vs (set l i v) (suc i) j d (omega arith) ∙ get_or-set_other l i j v d (λ e. omega arith)

  pub get_d_sets : (vs l : List A) (i k : ℕ) (d : A) → i + length vs ≤ length l → k < length vs
      → get_or (sets l i vs) (i + k) d ≡ get_or vs k d
  get_d_sets vs l i k d h m =
      let e : length (take i l) ≡ i = length-take-le i l (omega arith) in
      let rest : List A = drop (i + length vs) l in
      ap (λ (s : List A). get_or s (i + k) d) (sets-eq vs l i h ∙ append_assoc (take i l) vs rest)
      ∙ ap (λ (j : ℕ). get_or (take i l ++ (vs ++ rest)) (j + k) d) (sym e)
      ∙ get_or-append-add (take i l) (vs ++ rest) k d ∙ get_or-append vs rest d k m

  -- stores in the second of two lists
  set_right : (p q : List A) (i : ℕ) (v : A) → set (p ++ q) (length p + i) v ≡ p ++ set q i v
  set_right [] q i v = ap (λ (k : ℕ). set q k v) (zero-add i)
  set_right (x ∷ p) q i v =
      ap (λ (k : ℕ). set (x ∷ (p ++ q)) k v) (suc-add (length p) i) ∙ ap (λ (l : List A). x ∷ l) (set_right p q i v)

  sets_right : (vs p q : List A) (i : ℕ) → sets (p ++ q) (length p + i) vs ≡ p ++ sets q i vs
  sets_right [] p q i = refl
  sets_right (v ∷ vs) p q i =
      ap (λ (l : List A). sets l (suc (length p + i)) vs) (set_right p q i v)
      ∙ ap (λ (k : ℕ). sets (p ++ set q i v) k vs) (sym (add-suc (length p) i)) ∙ sets_right vs p (set q i v) (suc i)

  -- what was stored from the start of a part that reaches to the end, the whole list has from there on
  pub in_rest : (xs ys vs : List A) (a : ℕ) → a ≤ length xs → ys ≡ sets (take (length xs - a) (drop a xs)) 0 vs
      → take a xs ++ (ys ++ drop (length xs - a) (drop a xs)) ≡ sets xs a vs
  in_rest xs ys vs a h e =
      let rest : List A = drop a xs in
      let n : length rest ≡ length xs - a = length-drop a xs in
      let t : take (length xs - a) rest ≡ rest = take_all (length xs - a) rest (omega arith) in
      let d : drop (length xs - a) rest ≡ [] = drop_of_length-le rest {i = length xs - a} (omega arith) in
      ap (λ (l : List A). take a xs ++ (ys ++ l)) d
      ∙ ap (λ (l : List A). take a xs ++ l) (append-nil ys ∙ e ∙ ap (λ (l : List A). sets l 0 vs) t)
      ∙ sym (sets_right vs (take a xs) rest 0)
      ∙ ap (λ (k : ℕ). sets (take a xs ++ rest) k vs) (add-zero (length (take a xs)) ∙ length-take-le a xs h)
      ∙ ap (λ (l : List A). sets l a vs) (take-append-drop a xs)

  -- the rest of a run of one value
  drop_replicate : (k n : ℕ) (a : A) → drop k (replicate n a) ≡ replicate (n - k) a
  drop_replicate zero n a = let e : n - 0 ≡ n = omega arith in rw e
  drop_replicate (suc k) zero a = let e : zero - suc k ≡ zero = omega arith in ap (λ (m : ℕ). replicate m a) (sym e)
  drop_replicate (suc k) (suc n) a = let e : suc n - suc k ≡ n - k = omega arith in rw e (drop_replicate k n a)

-- a list stored over zeros, and zeros after it
pub over_zeros : (l : List ℕ) (n : ℕ) → length l ≤ n → sets (replicate n 0) 0 l ≡ l ++ replicate (n - length l) 0
over_zeros l n h =
    let z : length (replicate {A = ℕ} n 0) ≡ n = length-replicate n 0 in
    let d = ap (λ (k : ℕ). drop {A = ℕ} k (replicate n 0)) (zero-add (length l)) ∙ drop_replicate (length l) n 0 in
    sets-eq l (replicate n 0) 0 (omega arith) ∙ ap (λ (m : List ℕ). l ++ m) d
