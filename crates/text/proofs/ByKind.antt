-- The operation of six words by its kind, and its text. Assumes nothing.
use Prim.Native.Nat.{ℕ, ◌≤◌}
use mathlib.Core.Bool.{Bool, true, false, cond}
use mathlib.Core.List.{List}
use mathlib.Core.Path.{◌≡◌, refl, sym, ap, ◌∙◌}
use lib.ListN.{get_or}
use Rattle.operation.specs.declared.Kind.{Kind}
use Rattle.operation.specs.declared.Kind.TheVariants.{LoadConst, LoadVar, Save, Mov, Xchg, Uni, Bi, IfElse, LoadMath, LoadConstMath}
use Rattle.operation.specs.declared.Kind.TheVariants.{Call, Need}
use Rattle.operation.specs.Kinds.{numbered_kind}
use Rattle.symbol.specs.Place.{word_place}
use Rattle.definitions.specs.Operations.{Op, op_const, op_load, op_save, op_move, op_swap, op_uni, op_bi, op_ifelse}
use Rattle.definitions.specs.Operations.{op_loadmath, op_constmath, op_call, op_need, words_op}
use Rattle.definitions.specs.Text.{op_text}
use Rattle.text.specs.declared.Text.{Text}
use Rattle.text.specs.Text.{Adds}
use Rattle.text.specs.Line.{words_text}
use Rattle.text.proofs.Texts.{adds_as}

-- the operation of a kind
abbrev pub kind_op : Kind → (code d s1 s2 place : ℕ) → Op
kind_op LoadConst c d s1 s2 p = op_const d p
kind_op LoadVar c d s1 s2 p = op_load d (word_place p)
kind_op Save c d s1 s2 p = op_save s1 (word_place p)
kind_op Mov c d s1 s2 p = op_move d s1
kind_op Xchg c d s1 s2 p = op_swap d s1
kind_op Uni c d s1 s2 p = op_uni c d s1
kind_op Bi c d s1 s2 p = op_bi c d s1 s2
kind_op IfElse c d s1 s2 p = op_ifelse d s1 s2 (word_place p)
kind_op LoadMath c d s1 s2 p = op_loadmath c d s1 (word_place p)
kind_op LoadConstMath c d s1 s2 p = op_constmath c d s1 p
kind_op Call c d s1 s2 p = op_call c s1
kind_op Need c d s1 s2 p = op_need c

-- is that of a number's kind
module _ (c d s1 s2 p : ℕ) where
  kind_op_cond : (b : Bool) (x y : Kind) → kind_op (cond b x y) c d s1 s2 p ≡ cond b (kind_op x c d s1 s2 p) (kind_op y c d s1 s2 p)
  kind_op_cond true x y = refl
  kind_op_cond false x y = refl

  words_op_kind : (k : ℕ) → words_op k c d s1 s2 p ≡ kind_op (numbered_kind k) c d s1 s2 p
  unfolding words_op numbered_kind
  words_op_kind k = simp kind_op_cond

-- what an arm writes, by the kind that it was chosen by
pub op_adds : {l x : Text} (ws : List ℕ) {kind chosen : Kind} {j : ℕ} → kind ≡ numbered_kind (get_or ws 0 0) → kind ≡ chosen → j ≤ 58
    → Adds l (op_text (kind_op chosen (get_or ws 1 0) (get_or ws 2 0) (get_or ws 3 0) (get_or ws 4 0) (get_or ws 5 0))) j x
    → Adds l (words_text ws) 58 x
op_adds ws {chosen = chosen} e is few text =
    let code = get_or ws 1 0 in
    let place = get_or ws 5 0 in
    let by_kind = words_op_kind code (get_or ws 2 0) (get_or ws 3 0) (get_or ws 4 0) place (get_or ws 0 0) in
    let kinds : chosen ≡ numbered_kind (get_or ws 0 0) = sym is ∙ e in
    adds_as (ap op_text (rw (by_kind, ← kinds) refl)) few text
