-- One node more gets its mix, its place in the index and its class. Assumes nothing.
use mathlib.Core.Path.{◌≡◌, refl, sym, ap, ◌∙◌}
use mathlib.Core.List.{List}
use Prim.Native.Nat.{ℕ, suc, ◌+◌, ◌-◌, ◌<◌, ◌≤◌}
use native.Mathlib.Omega.{arith}
use lib.ListN.{length, set, length-set}
use lib.Seq.{get_or-set_same, get_or-set_other}
use lib.Dec.{eqb}
use borrow.Author.Tests.{eq-eqb}
use Rattle.definitions.specs.Same.{same}
use Rattle.definitions.proofs.Sameness.{same_self, same_symmetric}
use Rattle.node.specs.Nodes.{node_at, tree, Table}
use Rattle.node.specs.declared.Node.{Node}
use Rattle.mix.specs.Mix.{mix, node_mix}
use Rattle.node.specs.Sides.{Sides}
use Rattle.node.proofs.Sides.{sides_more}
use Rattle.numbers.specs.Filled.{at, Filled}
use Rattle.numbers.proofs.TableSides.{Between, tree_node, sides_between}
use Rattle.numbers.proofs.Filling.{from, filled_more}
use Rattle.classes.specs.Classes.{Classed, Linked, Next, ClassFor}
use Rattle.classes.proofs.NodeMixes.{node_mix_lem}
use Rattle.classes.proofs.Telling.{equal_flips}

-- a class for node i that tells it from all after it
module _ (ws cs : List ℕ) (i n r : ℕ) (long : i < length cs) (for : ClassFor ws cs i n r) (old : Classed ws cs (suc i) n) where
  here : at (set cs i r) i ≡ r
  here = get_or-set_same cs i r 0 long

  later : (k : ℕ) → i < k → at (set cs i r) k ≡ at cs k
  later k h = get_or-set_other cs i k r 0 (λ e. omega arith)

  abbrev Tells : ℕ → ℕ → Type 0
  Tells j k = eqb (at (set cs i r) j) (at (set cs i r) k) ≡ same (tree ws j) (tree ws k)

  tells_here : (k : ℕ) → i ≤ k → k < n → Tells i k
  tells_here k h l =
      from (Tells i) i k h
      (rw here (eq-eqb r r refl ∙ sym (same_self (tree ws i))))
      (λ g. rw (here, later k g) (for.tells k g l))

  tells_later : (j k : ℕ) → i < j → j < n → i ≤ k → k < n → Tells j k
  tells_later j k g l h m =
      from (Tells j) i k h
      (rw (here, later j g) (equal_flips (at cs j) r ∙ for.tells j g l ∙ same_symmetric (tree ws i) (tree ws j)))
      (λ f. rw (later j g, later k f) (old.tells j k g l f m))

  classed_more : Classed ws (set cs i r) i n
  classed_more =
      record {
        tells = λ j k hj lj hk lk. from (λ (x : ℕ). Tells x k) i j hj (tells_here k hk lk) (λ g. tells_later j k g lj hk lk);
        above = λ j h l.
            from (λ (x : ℕ). x ≤ at (set cs i r) x) i j h (rw here for.above) (λ g. rw (later j g) (old.above j g l));
        below = λ j h l.
            from (λ (x : ℕ). at (set cs i r) x < n) i j h (rw here for.below) (λ g. rw (later j g) (old.below j g l));
      }

-- n nodes, with a word for the class of each, and room for its mix
pub record Fitted (ws cs mx : List ℕ) (n : ℕ) : Type 0 where
  pub table : Table ws n
  pub css : length cs ≡ n
  pub mxs : n ≤ length mx

-- the mixes, the index and the classes of the nodes from i on
pub record ClassedFrom (ws cs mx links : List ℕ) (i n : ℕ) : Type 0 where
  pub fitted : Fitted ws cs mx n
  pub mixed : Filled mix ws mx i n
  pub linked : Linked ws links i n
  pub classed : Classed ws cs i n

-- as the loop has it: the node before o is next, unpacked as x
module _ {ws cs mx links : List ℕ} {o n : ℕ} (some : 0 < o) (within : o ≤ n) (old : ClassedFrom ws cs mx links o n) where
  abbrev i : ℕ
  i = o - 1

  up : suc i ≡ o
  up = omega arith

  inside : i < n
  inside = omega arith

  t : Table ws n
  t = old.fitted.table

  mix_now : {x : Node} {m : ℕ} → x ≡ node_at ws i → m ≡ node_mix (at mx) (i + 1) x → m ≡ mix (tree ws i)
  mix_now e h =
      rw e at h
      ∙ node_mix_lem (at mx) (tree ws) (Between i n) (λ a b. old.mixed a (omega (arith, b.after)) b.below) i (node_at ws i)
      (sides_between t i inside)
      ∙ sym (ap mix (tree_node t i inside))

  -- its sides are inside an array with a mix for each node
  pub sides_inside : {x : Node} → x ≡ node_at ws i → Sides (λ j. j < length mx) (i + 1) x
  sides_inside e =
      rw e
      (sides_more (Between i n) (λ j. j < length mx) (λ j b. omega (arith, b.below, old.fitted.mxs)) (i + 1) (node_at ws i)
      (sides_between t i inside))

  pub next_ready : {x : Node} {m : ℕ} → x ≡ node_at ws i → m ≡ node_mix (at mx) (i + 1) x → Next ws cs mx i m
  next_ready e h =
      let long = old.fitted.css in
      record {
        nodes = record { table = rw long t; inside = omega (arith, long); after = rw (long, up) old.classed };
        mxs = omega (arith, old.fitted.mxs, long);
        mixed = rw (long, up) old.mixed;
        ours = mix_now e h;
      }

  pub classed_next : {x : Node} {m r : ℕ} {links' : List ℕ} → x ≡ node_at ws i → m ≡ node_mix (at mx) (i + 1) x →
      ClassFor ws cs i (length cs) r → Linked ws links' i (length cs) → ClassedFrom ws (set cs i r) (set mx i m) links' i n
  classed_next {m = m} {r = r} e h for now =
      let sized = old.fitted in
      let long = sized.css in
      record {
        fitted = record { table = t; css = length-set cs i r ∙ long; mxs = rw (length-set mx i m) sized.mxs };
        mixed = filled_more mix ws mx i n m (omega (arith, sized.mxs)) (mix_now e h) (rw (← up) at old.mixed);
        linked = rw long at now;
        classed = classed_more ws cs i n r (omega (arith, long)) (rw long at for) (rw (← up) at old.classed);
      }
