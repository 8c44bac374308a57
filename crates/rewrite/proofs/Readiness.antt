-- What a call of the second pass may rely on, from what its caller may. Assumes nothing.
use mathlib.Core.Path.{◌≡◌, ◌∙◌}
use mathlib.Core.Bool.{true, false}
use mathlib.Core.List.{List}
use Prim.Native.Nat.{ℕ, ◌+◌, ◌<◌}
use native.Mathlib.Omega.{arith}
use lib.ListN.{get_or, length-set}
use Rattle.definitions.specs.Tree.{Tree}
use Rattle.statement.specs.Rows.{RoomFor}
use Rattle.rewrite.specs.Stage.{Stage, flag, RowLeft}
use Rattle.rewrite.specs.Steps.{NodeShared, TextShared, RewriteReady, Rewriter, at_sides, TextsStored, StoresTexts}
use Rattle.statement.proofs.RowsSpent.{rows_spend}
use Rattle.rewrite.proofs.Rewriting.{text_node, flag_pledges, text_row_fits}

module _ {n more : ℕ} {At : ℕ → List Tree → Type 0} {p : Stage} (r : RewriteReady n more At p) where
  pub ready_at : {At' : ℕ → List Tree → Type 0} → At' n r.texts → RewriteReady n 0 At' p
  ready_at a =
      record { texts = r.texts; at = a; flags = r.flags; rows = r.rows; room = omega (arith, r.room) }

  module _ {p' : Stage} {ws sh : List ℕ} {f : Rewriter} (x : TextsStored n r.texts ws sh p p' f) where
    -- after a call
    pub ready_after : {At' : ℕ → List Tree → Type 0} → At' n r.texts → RewriteReady n more At' p'
    ready_after a =
        record {
          texts = r.texts;
          at = a;
          flags = x.flags;
          rows = omega (arith, r.rows, x.rows);
          room = omega (arith, r.room, x.rows, x.room);
        }

    -- some rows are left
    pub more_left : 0 < more → RowLeft p'
    more_left h =
        let room : RoomFor p'.rows (p'.count + 1) =
        omega (arith, h, x.rows, x.room, r.room, rows_spend p'.rows 0 p'.count) in
        (room, omega (arith, room, x.rows, r.rows))

-- at the node of a text, with its flag set
pub ready_text : {ws sh tx : List ℕ} {t n : ℕ} {p : Stage} → get_or p.flags t false ≡ false →
    RewriteReady n 0 (TextShared ws sh tx t) p → RewriteReady n 0 (NodeShared ws sh tx (get_or tx t 0)) (flag p t)
ready_text {t = t} {p = p} new r =
    record {
      texts = r.texts;
      at = text_node r.at;
      flags = length-set p.flags t true ∙ r.flags;
      rows = r.rows;
      room = omega (arith, r.room, flag_pledges r.at p new r.flags);
    }

-- a row is left for a text after those in it
pub text_row_left : {ws sh tx : List ℕ} {t n : ℕ} {p p' : Stage} → get_or p.flags t false ≡ false →
    RewriteReady n 0 (TextShared ws sh tx t) p →
    StoresTexts (NodeShared ws sh tx (get_or tx t 0)) (at_sides ws (get_or tx t 0)) ws sh (flag p t) p' → RowLeft p'
text_row_left {n = n} {p = p} {p' = p'} new r x =
    let inner = x n r.texts (text_node r.at) in
    let room = text_row_fits r.at p new r.flags p' inner (omega (arith, r.room)) in
    (room, omega (arith, room, inner.rows, r.rows))
