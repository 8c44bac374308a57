-- Tidying adds no node and no depth, keeps the set of places read, and keeps every value where the rules are equations.
use mathlib.Core.Path.{◌≡◌, refl, sym, ◌∙◌}
use Prim.Native.Nat.{◌+◌, ◌≤◌}
use native.Mathlib.Omega.{arith}
use Rattle.symbol.specs.declared.Loc.{Loc}
use Rattle.operation.specs.Codes.{plus_code, times_code, commutes, unary_form, binary_form}
use Rattle.operation.specs.Numbers.{unary_number, binary_number}
use Rattle.operation.specs.declared.Two.{Two}
use Rattle.definitions.specs.Tree.{Tree, constant, variable, one, two, weight, depth}
use Rattle.definitions.specs.Meaning.{Meaning, Memory, value, unary_value, binary_value}
use Rattle.definitions.proofs.Memory.{Reads}
use Rattle.definitions.proofs.Sameness.{same_symmetric, same_keeps_reads, same_keeps_value}
use Rattle.tidying.specs.Tidy.{Units, alone, Outcome, followed, tidy}
use Rattle.tidying.specs.Arithmetic.{Equations}
use Rattle.tidying.proofs.Rules.{Rule, none, minus_left, minus_right, one_left, one_right, recip_left, recip_right}
use Rattle.tidying.proofs.Rules.{conjugate_right, conjugate_left, over_recip, neg_left, neg_right, Kept, tidy_keeps}

-- ---- no node more, and no level more

alone_weight : (t : Tree) → weight (alone t) ≤ weight t + 1
unfolding weight
alone_weight (constant i) = omega arith
alone_weight (variable p) = omega arith
alone_weight (one o a) = omega arith
alone_weight (two o l r) = omega arith

alone_depth : (t : Tree) → depth (alone t) ≤ depth t + 1
unfolding depth
alone_depth (constant i) = omega arith
alone_depth (variable p) = omega arith
alone_depth (one o a) = omega arith
alone_depth (two o l r) = omega arith

module _ (u : Units) where
  rule_lighter : {o : Two} {l r : Tree} {s : Outcome} → Rule u o l r s → weight (followed two o l r s) ≤ weight (two o l r)
  unfolding weight
  rule_lighter (none o l r) = omega arith
  rule_lighter (minus_left i r e) = omega arith
  rule_lighter (minus_right i l e) = omega arith
  rule_lighter (one_left i r e) = omega (arith, alone_weight r)
  rule_lighter (one_right i l e) = omega (arith, alone_weight l)
  rule_lighter (recip_left a r) = omega arith
  rule_lighter (recip_right l a) = omega arith
  rule_lighter (conjugate_right l a e) = omega arith
  rule_lighter (conjugate_left a r e) = omega arith
  rule_lighter (over_recip l a) = omega arith
  rule_lighter (neg_left a r) = omega arith
  rule_lighter (neg_right l a) = omega arith

  rule_shallower : {o : Two} {l r : Tree} {s : Outcome} → Rule u o l r s → depth (followed two o l r s) ≤ depth (two o l r)
  unfolding depth
  rule_shallower (none o l r) = omega arith
  rule_shallower (minus_left i r e) = omega arith
  rule_shallower (minus_right i l e) = omega arith
  rule_shallower (one_left i r e) = omega (arith, alone_depth r)
  rule_shallower (one_right i l e) = omega (arith, alone_depth l)
  rule_shallower (recip_left a r) = omega arith
  rule_shallower (recip_right l a) = omega arith
  rule_shallower (conjugate_right l a e) = omega arith
  rule_shallower (conjugate_left a r e) = omega arith
  rule_shallower (over_recip l a) = omega arith
  rule_shallower (neg_left a r) = omega arith
  rule_shallower (neg_right l a) = omega arith

  lighter : Kept u (λ t s. weight s ≤ weight t)
  unfolding weight
  lighter =
      record {
        self = λ t. omega arith;
        chain = λ a b c h k. omega arith;
        under1 = λ o a b h. omega arith;
        under2 = λ o l r x y h k. omega arith;
        rule = λ h. rule_lighter h;
      }

  shallower : Kept u (λ t s. depth s ≤ depth t)
  unfolding depth
  shallower =
      record {
        self = λ t. omega arith;
        chain = λ a b c h k. omega arith;
        under1 = λ o a b h. omega arith;
        under2 = λ o l r x y h k. omega arith;
        rule = λ h. rule_shallower h;
      }

  pub tidy_weight : (t : Tree) → weight (tidy u t) ≤ weight t
  tidy_weight t = tidy_keeps u (λ t s. weight s ≤ weight t) lighter t

  pub tidy_depth : (t : Tree) → depth (tidy u t) ≤ depth t
  tidy_depth t = tidy_keeps u (λ t s. depth s ≤ depth t) shallower t

-- ---- the places read

module _ (P : Loc → Type 0) where
  -- P holds of all places read before exactly if it does of all read after
  abbrev SameReads : Tree → Tree → Type 0
  SameReads t s = (Reads P t → Reads P s) × (Reads P s → Reads P t)

  alone_reads : (t : Tree) → SameReads t (alone t)
  unfolding Reads
  alone_reads (constant i) = (λ h. h, λ h. h)
  alone_reads (variable p) = (λ h. h, λ h. h)
  alone_reads (one o a) = (λ h. h, λ h. h)
  alone_reads (two o l r) = (λ h. h, λ h. h)

  module _ (u : Units) where
    rule_reads : {o : Two} {l r : Tree} {s : Outcome} → Rule u o l r s → SameReads (two o l r) (followed two o l r s)
    unfolding Reads
    rule_reads (none o l r) = (λ h. h, λ h. h)
    rule_reads (minus_left i r e) = (λ h. h.2, λ h. (tt, tt, h))
    rule_reads (minus_right i l e) = (λ h. h.1, λ h. (tt, h, tt))
    rule_reads (one_left i r e) = (λ h. (alone_reads r).0 h.2, λ h. (tt, tt, (alone_reads r).1 h))
    rule_reads (one_right i l e) = (λ h. (alone_reads l).0 h.1, λ h. (tt, (alone_reads l).1 h, tt))
    rule_reads (recip_left a r) = (λ h. (tt, h.2, h.1), λ h. (tt, h.2, h.1))
    rule_reads (recip_right l a) = (λ h. h, λ h. h)
    rule_reads (conjugate_right l a e) =
        (λ h. h.1, λ h. (tt, h, same_keeps_reads P l a (same_symmetric l a ∙ e) h))
    rule_reads (conjugate_left a r e) =
        (λ h. h.2, λ h. (tt, same_keeps_reads P r a (same_symmetric r a ∙ e) h, h))
    rule_reads (over_recip l a) = (λ h. h, λ h. h)
    rule_reads (neg_left a r) = (λ h. (tt, h.2, h.1), λ h. (tt, h.2, h.1))
    rule_reads (neg_right l a) = (λ h. h, λ h. h)

    reading : Kept u SameReads
    unfolding Reads
    reading =
        record {
          self = λ t. (λ h. h, λ h. h);
          chain = λ a b c f g. (λ h. g.0 (f.0 h), λ h. f.1 (g.1 h));
          under1 = λ o a b f. f;
          under2 = λ o l r x y f g. (λ h. (h.0, f.0 h.1, g.0 h.2), λ h. (h.0, f.1 h.1, g.1 h.2));
          rule = λ h. rule_reads h;
        }

    pub tidy_reads : (t : Tree) → (Reads P t → Reads P (tidy u t)) × (Reads P (tidy u t) → Reads P t)
    tidy_reads t = tidy_keeps u SameReads reading t

-- ---- values

module _ (u : Units) (m : Meaning) (q : Equations u m) (μ : Memory m.Value) where
  abbrev SameValue : Tree → Tree → Type 0
  SameValue t s = value m μ t ≡ value m μ s

  alone_value : (t : Tree) → value m μ t ≡ value m μ (alone t)
  unfolding value unary_value unary_form unary_number
  alone_value (constant i) = sym (q.real_constant i)
  alone_value (variable p) = refl
  alone_value (one o a) = refl
  alone_value (two o l r) = refl

  turned : (x y : m.Value) → m.binary_of times_code x y ≡ m.binary_of times_code y x
  unfolding commutes
  turned x y = q.commuting times_code refl x y

  rule_value : {o : Two} {l r : Tree} {s : Outcome} → Rule u o l r s → SameValue (two o l r) (followed two o l r s)
  unfolding value unary_value unary_form binary_value binary_form commutes unary_number binary_number
  rule_value (none o l r) = refl
  rule_value (minus_left i r e) = q.minus_times i e (value m μ r)
  rule_value (minus_right i l e) = turned _ _ ∙ q.minus_times i e (value m μ l)
  rule_value (one_left i r e) = q.one_times i e (value m μ r) ∙ alone_value r
  rule_value (one_right i l e) = turned _ _ ∙ q.one_times i e (value m μ l) ∙ alone_value l
  rule_value (recip_left a r) = turned _ _ ∙ q.times_recip (value m μ r) (value m μ a)
  rule_value (recip_right l a) = q.times_recip (value m μ l) (value m μ a)
  rule_value (conjugate_right l a e) =
      cc (same_keeps_value m q.commuting μ a l e, q.times_conjugate (value m μ l))
  rule_value (conjugate_left a r e) =
      turned _ _ ∙ cc (same_keeps_value m q.commuting μ a r e, q.times_conjugate (value m μ r))
  rule_value (over_recip l a) = q.divide_recip (value m μ l) (value m μ a)
  rule_value (neg_left a r) = q.commuting plus_code refl _ _ ∙ q.plus_neg (value m μ r) (value m μ a)
  rule_value (neg_right l a) = q.plus_neg (value m μ l) (value m μ a)

  valued : Kept u SameValue
  unfolding value
  valued =
      record {
        self = λ t. refl;
        chain = λ a b c h k. h ∙ k;
        under1 = λ o a b h. cc;
        under2 = λ o l r x y h k. cc;
        rule = λ h. rule_value h;
      }

  pub tidy_value : (t : Tree) → value m μ (tidy u t) ≡ value m μ t
  tidy_value t = sym (tidy_keeps u SameValue valued t)
