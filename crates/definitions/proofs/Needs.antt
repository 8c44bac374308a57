-- The records of an emitted list hold: what stands under one writes no scratch register at or above its number.
use Prim.Native.Nat.{ℕ, ◌≤◌, compare, Ordering}
use mathlib.Core.Path.{◌≡◌, refl, sym}
use mathlib.Core.Logic.{inl, inr}
use mathlib.Core.Bool.{Bool, false, false≢true}
use mathlib.Core.List.{List, [], ◌∷◌, ◌++◌}
use native.Mathlib.Omega.{arith}
use Rattle.definitions.specs.Tree.{Tree, ershov, join_by, join}
use Rattle.definitions.specs.Statement.{call1, call2, Statement, assign, call, source, target}
use Rattle.definitions.specs.Trim.{wide_call, too_wide}
use Rattle.definitions.specs.Operations.{Op, op_save, op_words, is_call, is_need}
use Rattle.definitions.specs.Emit.{evaluate, saved_from, statement_ops, emit_all}
use Rattle.definitions.specs.Claims.{WritesOnly, EachOp, Below, NeedsHold}
use Rattle.definitions.proofs.Comparing.{Compared, compared, or_neither}
use Rattle.definitions.proofs.Fitting.{StatementFits, AllFit}
use Rattle.definitions.proofs.Evaluation.{join_covers, ershov_positive}
use Rattle.definitions.proofs.Pieces.{each_append, evaluate_all}
use Rattle.definitions.proofs.TrimFits.{join_fits}

-- two sides need two registers or more
join_two : (l r : ℕ) → 1 ≤ l → 1 ≤ r → 2 ≤ join l r
join_two l r p q = go (compare l r) (compared l r)
  where
    go : (o : Ordering) → Compared o l r → 2 ≤ join_by o l r
    go Ordering.lt c = omega arith
    go Ordering.eq c = omega arith
    go Ordering.gt c = omega arith

-- an operation that is no record, and may stand under one of e
pub record Under (e : ℕ) (o : Op) : Type 0 where
  pub other : is_need o ≡ false
  pub writes : is_call o ≡ false → WritesOnly (Below e) o

-- such operations, before any others that may stand there
under_holds : (scratch e : ℕ) → 1 ≤ e → e ≤ scratch → (xs ys : List Op) → EachOp (Under e) xs → NeedsHold scratch e ys →
    NeedsHold scratch e (xs ++ ys)
unfolding NeedsHold EachOp
under_holds scratch e low high [] ys h k = k
under_holds scratch e low high (x ∷ xs) ys h k =
    rw h.0.other (low, high, h.0.writes, under_holds scratch e low high xs ys h.1 k)

-- a tree's operations, functions and all, if it needs no more than e registers
evaluate_under : (e : ℕ) (isFused : Bool) (t : Tree) → ershov t ≤ e → EachOp (Under e) (evaluate isFused 0 t)
unfolding op_words ershov
evaluate_under e isFused t fits =
    evaluate_all (Below e) (λ u. ershov u ≤ e) (Under e)
    (record {
      under_one = λ o a k. k;
      under_two = λ o l r k. let c = join_covers (ershov l) (ershov r) in (omega (arith, k, c), omega (arith, k, c));
      temp = inr (inl refl);
      ret = inr (inr refl);
      of_const = λ d i h. record { other = refl; writes = λ _. h };
      of_load = λ d p _ h. record { other = refl; writes = λ _. h };
      of_move = λ d s h. record { other = refl; writes = λ _. h };
      of_swap = λ d s h k. record { other = refl; writes = λ _. (h, k) };
      of_uni = λ c d s h. record { other = refl; writes = λ _. h };
      of_bi = λ c d s1 s2 h. record { other = refl; writes = λ _. h };
      of_ifelse = λ d s1 s2 p l r _ h. record { other = refl; writes = λ _. h };
      of_loadmath = λ c d s p _ h. record { other = refl; writes = λ _. h };
      of_constmath = λ c d s i h. record { other = refl; writes = λ _. h };
      of_call1 = λ f a k. (
        inl (omega (arith, k, ershov_positive a)),
        record { other = refl; writes = λ no. absurd (false≢true (sym no)) },
      );
      of_call2 = λ f l r k.
          let two = join_two (ershov l) (ershov r) (ershov_positive l) (ershov_positive r) in (
            inl (omega (arith, k, two)),
            inl (omega (arith, k, two)),
            record { other = refl; writes = λ no. absurd (false≢true (sym no)) },
          );
    })
    isFused t fits 0 (λ r i j. inl (omega arith))

-- a trimmed statement needs at most the scratch count, if it is no call that check 8 refuses, and so do those after it
need_fits : (scratch : ℕ) (s : Statement) (ss : List Statement) → StatementFits scratch s → too_wide scratch (s ∷ ss) ≡ false →
    (ershov (source s) ≤ scratch) × (too_wide scratch ss ≡ false)
unfolding too_wide ershov
need_fits scratch (assign p t) ss h narrow = (h.small, narrow)
need_fits scratch (call p (call1 f a)) ss h narrow = (h.small, narrow)
need_fits scratch (call p (call2 f l r)) ss h narrow =
    let both = or_neither (wide_call scratch (call2 f l r)) (too_wide scratch ss) narrow in
    (join_fits scratch (ershov l) (ershov r) h.0.small h.1.small both.0, both.1)

-- the records of a list hold, whatever was needed before it
pub list_needs_hold : (scratch : ℕ) (isFused : Bool) (ss : List Statement) → AllFit scratch ss → too_wide scratch ss ≡ false →
    (need : ℕ) → NeedsHold scratch need (emit_all isFused ss)
unfolding emit_all AllFit NeedsHold EachOp statement_ops op_words
list_needs_hold scratch isFused [] fits narrow need = tt
list_needs_hold scratch isFused (s ∷ ss) fits narrow need =
    let e = ershov (source s) in
    let low = ershov_positive (source s) in
    let own = need_fits scratch s ss fits.0 narrow in
    let ops = evaluate isFused 0 (source s) in
    let save = op_save (saved_from s) (target s) in
    let under = each_append (Under e) ops (save ∷ []) (evaluate_under e isFused (source s) (omega arith))
    (record { other = refl; writes = λ _. tt }, tt) in (
      low,
      own.0,
      (λ _. tt),
      under_holds scratch e low own.0 (ops ++ (save ∷ [])) (emit_all isFused ss) under
          (list_needs_hold scratch isFused ss fits.1 own.1 e),
    )
