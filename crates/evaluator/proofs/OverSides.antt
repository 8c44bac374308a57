-- The operations of an operation over two sides, and of the sides in their order. Assumes nothing.
use mathlib.Core.Path.{◌≡◌, refl, sym, ap, ap₂, ◌∙◌}
use mathlib.Core.Bool.{Bool}
use mathlib.Core.List.{List, ◌++◌}
use Prim.Native.Nat.{ℕ, ◌+◌, ◌*◌, ◌<◌, ◌≤◌, compare, Ordering}
use native.Mathlib.Omega.{arith}
use Rattle.limits.specs.Limits.{depth_limit, ops_per_node}
use Rattle.header.specs.Settings.{temporary_of}
use Rattle.operation.specs.declared.Two.{Two}
use Rattle.operation.specs.declared.BinaryCode.{BinaryCode}
use Rattle.operation.specs.Numbers.{binary_number}
use Rattle.definitions.specs.Tree.{Tree, two, join, ershov}
use Rattle.definitions.specs.Operations.{Op}
use Rattle.definitions.specs.Emit.{last, two_ops, leaf_of, plan, planned, evaluate, left_base, sides_by}
use Rattle.definitions.specs.Emit as Emit
use Rattle.ershov.specs.Shown.{KnownNode, ViewNumbered}
use Rattle.emitters.specs.declared.Output.{Output}
use Rattle.emitters.specs.Emitted.{Emitted}
use Rattle.emitters.proofs.Emitting.{emitted_then, emitted_as}
use Rattle.evaluator.specs.declared.Evaluator.{Evaluator}
use Rattle.evaluator.specs.declared.Over.{Over}
use Rattle.evaluator.specs.declared.Turns.{Turns}
use Rattle.evaluator.specs.declared.Operand.{Operand}
use Rattle.evaluator.specs.declared.Operand.TheVariants.{Place, Index}
use Rattle.evaluator.specs.declared.Plan.{Plan}
use Rattle.evaluator.specs.declared.Plan.TheVariants.{InRegisters, Right, Left}
use Rattle.evaluator.specs.declared.Allocation.{Allocation}
use Rattle.evaluator.specs.Plans.{right_as, left_as, plan_as, fused_ops}
use Rattle.evaluator.specs.Evaluation.{turns_by, view_tree, span_of, leaf_at, NodeReady, SidesReady}
use Rattle.evaluator.specs.Evaluation.{ViewEmitted, TwoEmitted, SidesAllocated}

-- ---- the plan's operations

module _ (fused : Bool) (b : ℕ) (o : Two) (l r : Tree) where
  -- into the last register of j
  abbrev plan_ops : Emit.Plan → (j : ℕ) → List Op
  plan_ops p j = planned b (ershov l) (ershov r) (λ k. evaluate fused k l) (λ k. evaluate fused k r) p o (last b j)

  two_planned : {p : Emit.Plan} {x y j : ℕ} → x ≡ ershov l → y ≡ ershov r → j ≡ join x y →
      p ≡ plan fused o (leaf_of l) (leaf_of r) → evaluate fused b (two o l r) ≡ plan_ops p j
  unfolding evaluate
  two_planned ex ey ej e = ap₂ plan_ops (sym e) (sym (ej ∙ ap₂ join ex ey))

  -- a plan that fuses a side evaluates the other
  planned_right : (c j : ℕ) (q : Operand) →
      plan_ops (right_as c q) j ≡ evaluate fused b l ++ fused_ops q c (last b j) (last b (ershov l))
  planned_right c j (Place p) = refl
  planned_right c j (Index i) = refl

  planned_left : (c j : ℕ) (q : Operand) →
      plan_ops (left_as c q) j ≡ evaluate fused b r ++ fused_ops q c (last b j) (last b (ershov r))
  planned_left c j (Place p) = refl
  planned_left c j (Index i) = refl

-- a side from registers, and the fused operation after it
module _ (e : Evaluator) (s : Over) (base : ℕ) where
  two_fused : (j c : ℕ) (q : Operand) (i v : ℕ) {n : ℕ} {old between new : Output} →
      evaluate e.header.fused base (two s.o (view_tree e s.left) (view_tree e s.right))
      ≡ evaluate e.header.fused base (view_tree e i) ++ fused_ops q c (last base j) (last base (ershov (view_tree e i))) →
      n ≡ ershov (view_tree e i) → v ≤ span_of e s.left + span_of e s.right →
      Emitted (evaluate e.header.fused base (view_tree e i)) (ops_per_node * v) old between →
      Emitted (fused_ops q c (last base j) (last base n)) 1 between new → TwoEmitted e s base old new
  two_fused j c q i v is f l first over =
      emitted_as (omega arith) is
      (emitted_then {n = 1} {k = ops_per_node * (span_of e s.left + span_of e s.right + 1)} (omega arith) first
      (emitted_as (omega arith) (ap (λ (z : ℕ). fused_ops q c (last base j) (last base z)) (sym f)) over))

-- ---- sides whose numbers are x and y

module _ (e : Evaluator) (s : Over) (base : ℕ) {x y : ℕ} (left : ViewNumbered e.trees s.left x)
    (right : ViewNumbered e.trees s.right y) where
  abbrev fused : Bool
  fused = e.header.fused

  left-number : x ≡ ershov (view_tree e s.left)
  left-number = left.number (temporary_of e.header)

  right-number : y ≡ ershov (view_tree e s.right)
  right-number = right.number (temporary_of e.header)

  -- ---- by their plan, joined as j

  module _ {j : ℕ} {p : Plan} (joined : j ≡ join x y) (plans : plan_as p ≡ plan fused s.o (leaf_at e s.left) (leaf_at e s.right))
    where
      two_as : {m : Plan} → p ≡ m → evaluate fused base (two s.o (view_tree e s.left) (view_tree e s.right))
          ≡ plan_ops fused base s.o (view_tree e s.left) (view_tree e s.right) (plan_as m) j
      two_as is = two_planned fused base s.o _ _ left-number right-number joined (sym (ap plan_as is) ∙ plans)

      module _ {old between new : Output} where
        pub two_in_registers : {a : Allocation} → p ≡ InRegisters → SidesAllocated e s base a old between →
            Emitted (two_ops s.o (last base j) a.left a.right) ops_per_node between new → TwoEmitted e s base old new
        two_in_registers is sides over =
            emitted_as (omega arith) (two_as is)
            (emitted_then {n = ops_per_node} {k = ops_per_node * (span_of e s.left + span_of e s.right + 1)} (omega arith)
            sides.emitted
            (emitted_as (omega arith) (ap₂ (two_ops s.o (last base j)) (sym sides.lefts) (sym sides.rights)) over))

        pub two_right_fused : {c : BinaryCode} {q : Operand} → p ≡ Right c q → ViewEmitted e s.left base old between →
            Emitted (fused_ops q (binary_number c) (last base j) (last base x)) 1 between new → TwoEmitted e s base old new
        two_right_fused {c} {q} is =
            two_fused e s base j (binary_number c) q s.left (span_of e s.left)
            (two_as is ∙ planned_right fused base s.o _ _ (binary_number c) j q) left-number (omega arith)

        pub two_left_fused : {c : BinaryCode} {q : Operand} → p ≡ Left c q → ViewEmitted e s.right base old between →
            Emitted (fused_ops q (binary_number c) (last base j) (last base y)) 1 between new → TwoEmitted e s base old new
        two_left_fused {c} {q} is =
            two_fused e s base j (binary_number c) q s.right (span_of e s.right)
            (two_as is ∙ planned_left fused base s.o _ _ (binary_number c) j q) right-number (omega arith)

-- ---- the sides in their order

module _ (e : Evaluator) (s : Over) (base : ℕ) where
  -- turns whose sides are known, none before the left one, each at a base that is low enough
  pub record InTurn (o : Ordering) (r : Turns) : Type 0 where
    pub from : s.left ≤ r.first
    pub known : KnownNode e.trees r.first
    pub low : r.base ≤ depth_limit + r.first
    pub next : s.left ≤ r.second
    pub next_known : KnownNode e.trees r.second
    pub based : r.base ≡ left_base o base
    pub spans : span_of e r.first + span_of e r.second ≡ span_of e s.left + span_of e s.right

  -- the left side first, at a base that is low enough
  left_first : {at : ℕ} → SidesReady e s base at → (o : Ordering) (b : ℕ) → b ≤ depth_limit + s.left → b ≡ left_base o base →
      InTurn o (record { first = s.left; base = b; second = s.right })
  left_first k o b low based =
      record {
        from = omega arith;
        known = k.left;
        low = low;
        next = omega (arith, k.order);
        next_known = k.right;
        based = based;
        spans = refl;
      }

  in_turn : {at : ℕ} → SidesReady e s base at → (o : Ordering) → InTurn o (turns_by o s base)
  in_turn k Ordering.lt =
      record {
        from = omega (arith, k.order);
        known = k.right;
        low = omega (arith, k.order, k.low);
        next = omega arith;
        next_known = k.left;
        based = refl;
        spans = omega arith;
      }
  in_turn k Ordering.eq = left_first k Ordering.eq (base + 1) (omega (arith, k.low)) refl
  in_turn k Ordering.gt = left_first k Ordering.gt base (omega (arith, k.low)) refl

  emitted_in_turn : {old between new : Output} (o : Ordering) →
      ViewEmitted e (turns_by o s base).first (turns_by o s base).base old between →
      ViewEmitted e (turns_by o s base).second base between new →
      Emitted (sides_by o base (λ k. evaluate e.header.fused k (view_tree e s.left))
      (λ k. evaluate e.header.fused k (view_tree e s.right)))
      (ops_per_node * (span_of e s.left + span_of e s.right)) old new
  emitted_in_turn Ordering.lt x y = emitted_then (omega arith) x y
  emitted_in_turn Ordering.eq x y = emitted_then (omega arith) x y
  emitted_in_turn Ordering.gt x y = emitted_then (omega arith) x y

module _ {e : Evaluator} {s : Over} {base at : ℕ} (x y : ℕ) {r : Turns} (ready : SidesReady e s base at)
    (turns : r ≡ turns_by (compare x y) s base) where
  pub turns_taken : InTurn e s base (compare x y) r
  turns_taken = rw turns (in_turn e s base ready (compare x y))

  pub first_ready : NodeReady e r.first r.base at
  first_ready =
      let t = turns_taken in
      record { known = t.known; low = t.low; counted = omega (arith, t.spans, ready.counted) }

  pub second_ready : {old between : Output} → old.at ≡ at → ViewEmitted e r.first r.base old between →
      NodeReady e r.second base between.at
  second_ready start first =
      let t = turns_taken in
      record {
        known = t.next_known;
        low = omega (arith, t.next, ready.low);
        counted = omega (arith, start, t.spans, ready.counted, first.ends, first.few);
      }

  pub sides_allocated : {old between new : Output} → ViewNumbered e.trees s.left x → ViewNumbered e.trees s.right y →
      ViewEmitted e r.first r.base old between → ViewEmitted e r.second base between new →
      SidesAllocated e s base (record { left = last r.base x; right = last base y }) old new
  sides_allocated left right first second =
      let left-is = left-number e s base left right in
      let right-is = right-number e s base left right in
      let same = ap₂ compare left-is right-is in
      record {
        lefts = ap₂ last (turns_taken.based ∙ ap (λ (o : Ordering). left_base o base) same) left-is;
        rights = ap (last base) right-is;
        emitted = rw (← same) (emitted_in_turn e s base (compare x y) (rw turns at first) (rw turns at second));
      }
