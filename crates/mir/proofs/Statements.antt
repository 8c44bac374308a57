-- The operations of statements: a tree's, and the save. Assumes nothing.
use mathlib.Core.Path.{◌≡◌, refl, sym, ap, ap₂, ◌∙◌}
use mathlib.Core.Bool.{Bool, true, false, cond}
use mathlib.Core.List.{List, [], ◌∷◌}
use Prim.Native.Nat.{ℕ, ◌+◌, ◌-◌, ◌*◌, ◌<◌, ◌≤◌}
use native.Mathlib.Omega.{arith}
use Rattle.limits.specs.Limits.{node_limit, ops_per_node}
use Rattle.symbol.specs.declared.Loc.{Loc}
use Rattle.header.specs.declared.Header.{Header}
use Rattle.header.specs.Settings.{temporary_of}
use Rattle.operation.specs.declared.One.TheVariants.{Unary, Power, Function1}
use Rattle.operation.specs.declared.Two.TheVariants.{Binary, Choice, PowerMod, Function2}
use Rattle.definitions.specs.Tree.{Tree, variable, ershov}
use Rattle.definitions.specs.Statement.{assign}
use Rattle.definitions.specs.Operations.{Op, op_load, op_save, op_need, Ret}
use Rattle.definitions.specs.Emit.{last, evaluate, statement_ops}
use Rattle.node.specs.declared.Node.{Node}
use Rattle.node.specs.declared.Node.TheVariants.{Const, Var, Unary as UnaryNode, Binary as BinaryNode}
use Rattle.node.specs.Nodes.{is_function, node_at, node_tree}
use Rattle.statement.specs.Rows.{call_into}
use Rattle.ershov.specs.Shown.{KnownNode}
use Rattle.ershov.proofs.Numbers.{known_tree}
use Rattle.emitters.specs.declared.Output.{Output}
use Rattle.emitters.specs.Emitted.{Emitted}
use Rattle.emitters.proofs.Emitting.{emitted_then}
use Rattle.evaluator.specs.declared.Evaluator.{Evaluator}
use Rattle.evaluator.specs.Evaluation.{seen_tree, view_tree}
use Rattle.mir.specs.Lists.{most_ops, saved_ops, Written, SavedWritten, AssignWritten, CallWritten}

-- ---- what was emitted from the start, and equal operations

emitted_written : {os : List Op} {m : ℕ} {out out' : Output} {words : List ℕ} → out.at ≡ 0 → words ≡ out'.words.now →
    Emitted os m out out' → Written os m 0 out'.at out.words.now words
emitted_written {os} {out = out} {out' = out'} start lent x =
    record {
      counted = omega (arith, start, x.ends);
      words = lent ∙ rw start at x.words;
      few = x.few;
    }

written_as : {os ps : List Op} {m n : ℕ} {out out' : List ℕ} → ps ≡ os → Written os m 0 n out out' → Written ps m 0 n out out'
written_as e x = rw e x

-- ---- a tree's value into a place

-- the record of its need, its operations, and the save
pub saved_written : (fused : Bool) (t : Tree) {x m s : ℕ} {p : Loc} {out out₁ out₂ out₃ : Output} {words : List ℕ} →
    out.at ≡ 0 → words ≡ out₃.words.now → x ≡ ershov t → m ≤ ops_per_node * node_limit →
    Emitted (op_need x ∷ []) 1 out out₁ → Emitted (evaluate fused 0 t) m out₁ out₂ →
    Emitted (op_save s p ∷ []) 1 out₂ out₃ → Written (saved_ops fused t s p) most_ops 0 out₃.at out.words.now words
saved_written fused t {m = m} start lent number few need ops save =
    rw (← number)
    (emitted_written start lent
    (emitted_then {k = most_ops} (omega arith) need (emitted_then {k = m + 1} (omega arith) ops save)))

-- from the register of its number
pub assign_written : (e : Evaluator) (p : Loc) (i : ℕ) {x n : ℕ} {out out' : List ℕ} → x ≡ ershov (seen_tree e i) →
    SavedWritten e i (x - 1) p n out out' → AssignWritten e p i n out out'
unfolding statement_ops
assign_written e p i {x} number saved =
    let register : last 0 (ershov (seen_tree e i)) ≡ x - 1 = omega arith in
    written_as (ap (λ (s : ℕ). saved_ops e.header.fused (seen_tree e i) s p) register) saved

-- that of a temporary
pub copy_written : (h : Header) (p : Loc) {q q' : Loc} {out out₁ out₂ out₃ : Output} {words : List ℕ} → out.at ≡ 0 →
    words ≡ out₃.words.now → q ≡ q' → Emitted (op_need 1 ∷ []) 1 out out₁ → Emitted (op_load 0 q ∷ []) 1 out₁ out₂ →
    Emitted (op_save 0 p ∷ []) 1 out₂ out₃ →
    Written (statement_ops h.fused (assign p (variable q'))) most_ops 0 out₃.at out.words.now words
unfolding statement_ops evaluate ershov
copy_written h p start lent place need load save =
    rw (← place)
    (emitted_written start lent (emitted_then {k = most_ops} (omega arith) (emitted_then {k = 2} (omega arith) need load) save))

-- ---- a call's value, which it leaves in Ret

module _ (fused : Bool) (p : Loc) where
  -- the save from the register of a call or of a value
  abbrev saved_by : (is_call : Bool) → Tree → List Op
  saved_by c t = saved_ops fused t (cond c Ret (last 0 (ershov t))) p

  call_saves : (f : ℕ → Tree) (i : ℕ) (n : Node) →
      statement_ops fused (call_into p (node_tree f i n)) ≡ saved_by (is_function n) (node_tree f i n)
  unfolding statement_ops
  call_saves f i (Const k) = refl
  call_saves f i (Var q) = refl
  call_saves f i (UnaryNode (Unary c)) = refl
  call_saves f i (UnaryNode (Power stable w)) = refl
  call_saves f i (UnaryNode (Function1 g)) = refl
  call_saves f i (BinaryNode (Binary c) r) = refl
  call_saves f i (BinaryNode (Choice q) r) = refl
  call_saves f i (BinaryNode (PowerMod w) r) = refl
  call_saves f i (BinaryNode (Function2 g) r) = refl

-- node i was unpacked as n, and it was asked whether that is a function's
module _ (e : Evaluator) (p : Loc) {i : ℕ} {n : Node} {b : Bool} (known : KnownNode e.trees i)
    (unpacked : n ≡ node_at e.trees.nodes.words.now i) (asked : b ≡ is_function n) where
  call_as : {c : Bool} → b ≡ c →
      statement_ops e.header.fused (call_into p (seen_tree e i)) ≡ saved_by e.header.fused p c (seen_tree e i)
  call_as is =
      let tree = known_tree known unpacked (temporary_of e.header) refl in
      ap (λ (t : Tree). statement_ops e.header.fused (call_into p t)) tree ∙ call_saves e.header.fused p (view_tree e) i n
      ∙ ap₂ (saved_by e.header.fused p) (sym asked ∙ is) (sym tree)

  pub call_written : {size : ℕ} {out out' : List ℕ} → b ≡ true → SavedWritten e i Ret p size out out' →
      CallWritten e p i size out out'
  call_written is saved = written_as (call_as is) saved

  pub other_written : {size : ℕ} {out out' : List ℕ} → b ≡ false → AssignWritten e p i size out out' →
      CallWritten e p i size out out'
  unfolding statement_ops
  other_written is assigned = written_as (call_as is) assigned
