-- Tidied statements: their run where the rules are equations, and demand 3's condition on them.
use mathlib.Core.Path.{◌≡◌, refl, sym, ap, ap₂, ◌∙◌}
use mathlib.Core.Bool.{Bool, true, false, not, ◌&&◌, ◌||◌, false≢true}
use mathlib.Core.List.{List, [], ◌∷◌, ◌++◌}
use Rattle.symbol.specs.declared.Loc.{Loc}
use Rattle.symbol.specs.Place.{same_place}
use Rattle.operation.specs.declared.Two.{Two}
use Rattle.operation.specs.declared.Two.TheVariants.{Binary, Choice, PowerMod, Function2}
use Rattle.definitions.specs.Tree.{Tree, constant, variable, one, two, reads, condition}
use Rattle.definitions.specs.Statement.{Statement, assign, call, target, source}
use Rattle.definitions.specs.Meaning.{Meaning, Memory, put, perform, perform_all, is_in, orderly}
use Rattle.definitions.proofs.Memory.{Looks, Reads}
use Rattle.tidying.specs.Tidy.{Units, tidy, tidied, tidied_all}
use Rattle.tidying.specs.Arithmetic.{Equations}
use Rattle.tidying.proofs.TidyKeeps.{tidy_reads, tidy_value}

-- ---- the run

module _ (u : Units) (m : Meaning) (q : Equations u m) where
  perform_tidied : (s : Statement) (μ : Memory m.Value) → perform m (tidied u s) μ ≡ perform m s μ
  unfolding perform
  perform_tidied (assign p t) μ = ap (put μ p) (tidy_value u m q μ t)
  perform_tidied (call p c) μ = refl

  pub run_tidied : (ss : List Statement) (μ : Memory m.Value) → perform_all m (tidied_all u ss) μ ≡ perform_all m ss μ
  unfolding perform_all tidied_all
  run_tidied [] μ = refl
  run_tidied (s ∷ ss) μ = ap (perform_all m (tidied_all u ss)) (perform_tidied s μ) ∙ run_tidied ss (perform m s μ)

-- ---- the places read, as lists

or_both : (x y : Bool) → (x || y) ≡ false → (x ≡ false) × (y ≡ false)
or_both true y e = absurd (false≢true (sym e))
or_both false y e = (refl, e)

or_none : (x y : Bool) → x ≡ false → y ≡ false → (x || y) ≡ false
or_none true y e f = e
or_none false y e f = f

in_append : (xs ys : List Loc) (p : Loc) → is_in (xs ++ ys) p ≡ (is_in xs p || is_in ys p)
unfolding is_in
in_append [] ys p = refl
in_append (x ∷ xs) ys p = go (same_place x p) (in_append xs ys p)
  where
    go : (b : Bool) → is_in (xs ++ ys) p ≡ (is_in xs p || is_in ys p) → (b || is_in (xs ++ ys) p) ≡ ((b || is_in xs p) || is_in ys p)
    go true e = refl
    go false e = e

module _ (p : Loc) where
  Off : Loc → Type 0
  Off q = same_place q p ≡ false

  off_condition : (o : Two) → is_in (condition o) p ≡ false → Looks Off o
  unfolding is_in Off
  off_condition (Binary c) e = tt
  off_condition (Choice q) e = (or_both (same_place q p) false e).0
  off_condition (PowerMod w) e = tt
  off_condition (Function2 f) e = tt

  condition_off : (o : Two) → Looks Off o → is_in (condition o) p ≡ false
  unfolding is_in Off
  condition_off (Binary c) h = refl
  condition_off (Choice q) h = or_none (same_place q p) false h refl
  condition_off (PowerMod w) h = refl
  condition_off (Function2 f) h = refl

  off_reads : (t : Tree) → is_in (reads t) p ≡ false → Reads Off t
  unfolding is_in reads Reads Off
  off_reads (constant i) e = tt
  off_reads (variable q) e = (or_both (same_place q p) false e).0
  off_reads (one o a) e = off_reads a e
  off_reads (two o l r) e =
      let x = or_both _ _ (sym (in_append (condition o) (reads l ++ reads r) p) ∙ e) in
      let y = or_both _ _ (sym (in_append (reads l) (reads r) p) ∙ x.1) in
      (off_condition o x.0, off_reads l y.0, off_reads r y.1)

  reads_off : (t : Tree) → Reads Off t → is_in (reads t) p ≡ false
  unfolding is_in reads Reads Off
  reads_off (constant i) h = refl
  reads_off (variable q) h = or_none (same_place q p) false h refl
  reads_off (one o a) h = reads_off a h
  reads_off (two o l r) h =
      in_append (condition o) (reads l ++ reads r) p
      ∙ or_none _ _ (condition_off o h.0) (in_append (reads l) (reads r) p ∙ or_none _ _ (reads_off l h.1) (reads_off r h.2))

  agree : (x y : Bool) → (x ≡ false → y ≡ false) → (y ≡ false → x ≡ false) → x ≡ y
  agree true true f g = refl
  agree true false f g = g refl
  agree false true f g = sym (f refl)
  agree false false f g = refl

  -- a place is read after exactly if it was read before
  pub tidy_reads_place : (u : Units) (t : Tree) → is_in (reads (tidy u t)) p ≡ is_in (reads t) p
  tidy_reads_place u t =
      let k = tidy_reads Off u t in
      agree _ _ (λ e. reads_off t (k.1 (off_reads (tidy u t) e))) (λ e. reads_off (tidy u t) (k.0 (off_reads t e)))

-- ---- demand 3's condition, of a sheet as read

abbrev Alike : List Loc → List Loc → Type 0
Alike xs ys = (p : Loc) → is_in xs p ≡ is_in ys p

module _ (u : Units) where
  source_alike : (s : Statement) → Alike (reads (source (tidied u s))) (reads (source s))
  source_alike (assign q t) p = tidy_reads_place p u t
  source_alike (call q c) p = refl

  target_kept : (s : Statement) → target (tidied u s) ≡ target s
  target_kept (assign q t) = refl
  target_kept (call q c) = refl

  append_alike : (ws xs ys zs : List Loc) → Alike ws xs → Alike ys zs → Alike (ws ++ ys) (xs ++ zs)
  append_alike ws xs ys zs f g p = in_append ws ys p ∙ ap₂ ◌||◌ (f p) (g p) ∙ sym (in_append xs zs p)

  cons_alike : (q : Loc) (xs ys : List Loc) → Alike xs ys → Alike (q ∷ xs) (q ∷ ys)
  unfolding is_in
  cons_alike q xs ys f p = ap (λ (b : Bool). same_place q p || b) (f p)

  orderly_alike : (used used' : List Loc) (ss : List Statement) → Alike used used' →
      orderly used (tidied_all u ss) ≡ orderly used' ss
  unfolding orderly tidied_all
  orderly_alike used used' [] f = refl
  orderly_alike used used' (s ∷ ss) f =
      let a = append_alike _ _ used used' (source_alike s) f in
      let more = target s ∷ (reads (source (tidied u s)) ++ used) in
      let more' = target s ∷ (reads (source s) ++ used') in
      rw (target_kept s) (ap₂ ◌&&◌ (ap not (a (target s))) (orderly_alike more more' ss (cons_alike (target s) _ _ a)))

  pub orderly_tidied : (ss : List Statement) → orderly [] (tidied_all u ss) ≡ orderly [] ss
  orderly_tidied ss = orderly_alike [] [] ss (λ p. refl)
