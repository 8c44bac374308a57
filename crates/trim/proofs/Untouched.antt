-- Laws of nodes that trimming a root leaves untouched: what is seen of them stays. Assumes nothing.
use mathlib.Core.Path.{◌≡◌, refl}
use mathlib.Core.Logic.{◌≢◌}
use mathlib.Core.List.{List}
use Prim.Native.Nat.{ℕ, ◌+◌, ◌<◌, ◌≤◌}
use native.Mathlib.Omega.{arith}
use lib.ListN.{get_or}
use Rattle.symbol.specs.declared.Loc.{Loc}
use Rattle.node.specs.Nodes.{end_at, Table}
use Rattle.node.specs.Views.{seen, Marked, Moves, Outside}
use Rattle.node.proofs.Nodes.{below_or}
use Rattle.node.proofs.Views.{seen_frame}
use Rattle.node.proofs.Marks.{later_within}
use Rattle.statement.specs.declared.Row.{Row}
use Rattle.statement.specs.Rowing.{All, OnRoot}
use Rattle.statement.specs.Handover.{Owned}
use Rattle.statement.proofs.EveryRow.{roots_map}
use Rattle.trim.specs.Rowing.{InTree, Still}
use Rattle.statement.proofs.EveryRow.{roots_both}

-- trimming root i leaves node b as it is seen
pub data Untouched (ws ms : List ℕ) (i b : ℕ) : Type 0 where
  before : end_at ws b ≤ i → Untouched ws ms i b
  after : end_at ws i ≤ b → Untouched ws ms i b
  around : (x : ℕ) → i < x → x < end_at ws i → Marked ms x → x ≤ b → end_at ws b ≤ end_at ws x → Untouched ws ms i b
  apart : Marked ms i → Outside ws i b → Untouched ws ms i b

-- where the marks that root i changes begin: with its own, or after it if it has one
pub record Begins (ms : List ℕ) (lo i : ℕ) : Type 0 where
  pub least : i ≤ lo
  pub most : lo ≤ i + 1
  pub own : Marked ms i → lo ≡ i + 1

pub begins_with : {ms : List ℕ} {i : ℕ} → get_or ms i 0 ≡ 0 → Begins ms i i
begins_with z = record { least = omega arith; most = omega arith; own = λ k. absurd (k z) }

pub begins_after : (ms : List ℕ) (i : ℕ) → Begins ms (i + 1) i
begins_after ms i = record { least = omega arith; most = omega arith; own = λ k. refl }

module _ {ws ms ms' : List ℕ} {n lo i : ℕ} (t : Table ws n) (begins : Begins ms lo i) (m : Moves ws ms ms' lo (end_at ws i)) where
  pub untouched_seen : (temporary : ℕ → Loc) (b : ℕ) → b < n → Untouched ws ms i b →
      seen temporary ws ms' b ≡ seen temporary ws ms b
  untouched_seen temporary b h (before a) =
      seen_frame temporary ws ms ms' b (t.laid b h) (λ j u v. m.below j (omega (arith, begins.least)))
  untouched_seen temporary b h (after a) = seen_frame temporary ws ms ms' b (t.laid b h) (λ j u v. m.above j (omega arith))
  untouched_seen temporary b h (around x c d k f g) =
      seen_frame temporary ws ms ms' b (t.laid b h)
      (λ j u v. m.dead x j (omega (arith, begins.most)) d k (omega arith) (omega arith))
  untouched_seen temporary b h (apart k o) = later_within temporary ws ms ms' i b (t.laid b h) (rw (begins.own k) at m) k o

  pub untouched_still : (temporary : ℕ → Loc) (rows : List Row) → All (OnRoot (λ b. b < n)) rows →
      All (OnRoot (Untouched ws ms i)) rows → Still temporary ws ms ms' rows
  untouched_still temporary rows placed safe = roots_both _ _ _ (untouched_seen temporary) rows placed safe

  -- a root in no other tree that has no mark gets none
  pub blank_stays : (y : ℕ) → i ≢ y → Owned ws ms y → get_or ms y 0 ≡ 0 → get_or ms' y 0 ≡ 0
  blank_stays y ne owned z =
      below_or y i (λ l. rw (m.below y (omega (arith, begins.least))) z)
      (λ l.
      below_or y (end_at ws i) (λ u. absurd (owned i (omega (arith, ne)) u z)) (λ u. rw (m.above y u) z))

-- marks that are set since
pub untouched_since : (ws ms ms' : List ℕ) (i : ℕ) → ((j : ℕ) → Marked ms j → Marked ms' j) → (rows : List Row) →
    All (OnRoot (Untouched ws ms i)) rows → All (OnRoot (Untouched ws ms' i)) rows
untouched_since ws ms ms' i f = roots_map (Untouched ws ms i) (Untouched ws ms' i) since
  where
    since : (b : ℕ) → Untouched ws ms i b → Untouched ws ms' i b
    since b (before a) = before a
    since b (after a) = after a
    since b (around x c d k u v) = around x c d (f x k) u v
    since b (apart k o) = apart (f i k) o

-- nodes of the root x, against another root i
module _ (ws ms : List ℕ) (n : ℕ) {x i : ℕ} (ne : x ≢ i) (ox : Owned ws ms x) (oi : Owned ws ms i) where
  within_root : (b : ℕ) → InTree ws n x b → (Marked ms i → x < i → i < end_at ws x → Outside ws i b) → Untouched ws ms i b
  within_root b h free =
      below_or x i
      (λ l. below_or i (end_at ws x) (λ u. let k = oi x l u in apart k (free k l u)) (λ u. before (omega (arith, h.2))))
      (λ l.
      below_or x (end_at ws i)
      (λ u. around x (omega (arith, ne)) u (ox i (omega (arith, ne)) u) h.0 h.2) (λ u. after (omega (arith, h.0))))

  -- the root itself
  pub root_untouched : x < n → Untouched ws ms i x
  root_untouched h = within_root x (omega arith, h, omega arith) (λ k l u o z. omega arith)

  -- the rows that were put for it
  pub rows_untouched : (rows : List Row) → All (OnRoot (InTree ws n x)) rows →
      ((y : ℕ) → x + 1 ≤ y → y < end_at ws x → Marked ms y → All (OnRoot (Outside ws y)) rows) →
      All (OnRoot (Untouched ws ms i)) rows
  rows_untouched rows inside free =
      below_or x i
      (λ l.
      below_or i (end_at ws x)
      (λ u. let k = oi x l u in roots_map (Outside ws i) _ (λ b o. apart k o) rows (free i (omega arith) u k))
      (λ u. roots_map (InTree ws n x) _ (λ b o. before (omega (arith, o.2))) rows inside))
      (λ l. roots_map (InTree ws n x) _ (λ b o. within_root b o (λ k u v. absurd (omega arith))) rows inside)
