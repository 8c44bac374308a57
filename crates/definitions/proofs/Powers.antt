-- The operations of a power leave its value in the destination, and write nothing else but Temp, and Ret under a modulus.
-- Assumes nothing.
use Prim.Native.Nat.{ℕ, zero, suc, ◌<◌}
use mathlib.Core.Path.{◌≡◌, refl, sym, ap, ◌∙◌}
use mathlib.Core.Logic.{◌≢◌, ◌⊎◌, inl, inr}
use mathlib.Core.Bool.{Bool, true, false, cond}
use mathlib.Core.List.{List, [], ◌∷◌}
use native.Mathlib.Omega.{arith}
use lib.Dec.{eqb}
use lib.IntN.{ℤ, pos, negsuc}
use Rattle.std.specs.Prelude.{Some, None}
use Rattle.operation.specs.Codes.{recip_code, unary_form, binary_form}
use Rattle.definitions.specs.Operations.{Op, Temp, Ret}
use Rattle.definitions.specs.Power.{closing, higher, digit_ops, gather_ops, square_ops, positive_ops}
use Rattle.definitions.specs.Power.{gathered, squared, positive_value}
use Rattle.definitions.specs.Emit.{last, product_ops, power_ops}
use Rattle.definitions.specs.Meaning.{Meaning, unary_value, binary_value, times_value, times_mod_value, power_value}
use Rattle.definitions.specs.Run.{State, update, set_register, operate, run_ops}
use Rattle.definitions.proofs.Registers.{update_same, update_other, beyond_differs, Lands, run_append}

-- registers that may be written besides a destination: none; Temp; Temp and Ret
abbrev pub NoOther : ℕ → Type 0
NoOther r = ⊥

abbrev pub InTemp : ℕ → Type 0
InTemp r = r ≡ Temp

abbrev pub InTempOrRet : ℕ → Type 0
InTempOrRet r = (r ≡ Temp) ⊎ (r ≡ Ret)

module _ {A : Type 0} where
  -- from z to z' nothing is written but the register d, which gets v, and registers of W
  pub record Puts (W : ℕ → Type 0) (d : ℕ) (v : A) (z z' : State A) : Type 0 where
    pub memory_kept : z'.memory ≡ z.memory
    pub others_kept : (r : ℕ) → r ≢ d → (W r → ⊥) → z'.registers r ≡ z.registers r
    pub put : z'.registers d ≡ v

  pub set_puts : (W : ℕ → Type 0) (d : ℕ) (v : A) (z : State A) → Puts W d v z (set_register z d v)
  set_puts W d v z =
      record { memory_kept = refl; others_kept = λ r n k. update_other _ _ _ _ n; put = update_same _ _ _ _ refl }

  -- a register that gets what another holds; the other holds it still, be it the same one
  pub update_itself : (regs : ℕ → A) (d s : ℕ) → update regs d (regs s) s ≡ regs s
  unfolding update
  update_itself regs d s = go (eqb s d)
    where
      go : (b : Bool) → cond b (regs s) (regs s) ≡ regs s
      go true = refl
      go false = refl

  -- one after the other
  puts_then : {W : ℕ → Type 0} {d : ℕ} {v w : A} {z z₁ z₂ : State A} → Puts W d v z z₁ → Puts W d w z₁ z₂ →
      Puts W d w z z₂
  puts_then a b =
      record {
        memory_kept = b.memory_kept ∙ a.memory_kept;
        others_kept = λ r n k. b.others_kept r n k ∙ a.others_kept r n k;
        put = b.put;
      }

  pub puts_as : {W : ℕ → Type 0} {d : ℕ} {v w : A} {z z' : State A} → v ≡ w → Puts W d v z z' → Puts W d w z z'
  puts_as e a = record { memory_kept = a.memory_kept; others_kept = a.others_kept; put = a.put ∙ e }

  puts_wider : {W W' : ℕ → Type 0} {d : ℕ} {v : A} {z z' : State A} → ((r : ℕ) → W r → W' r) → Puts W d v z z' →
      Puts W' d v z z'
  puts_wider f a =
      record { memory_kept = a.memory_kept; others_kept = λ r n k. a.others_kept r n (λ w. k (f r w)); put = a.put }

  -- as the laws of evaluation say it
  pub puts_lands : {d : ℕ} {v : A} {z z' : State A} → Puts InTempOrRet d v z z' → Lands d 1 v z z'
  puts_lands {d} {v} {z} {z'} a =
      record {
        stays =
            record {
              memory_kept = a.memory_kept;
              others_kept = λ r p q o. a.others_kept r (beyond_differs d 1 d r (omega arith) (omega arith) o) (neither p q);
            };
        lands = let e : last d 1 ≡ d = omega arith in ap z'.registers e ∙ a.put;
      }
    where
      neither : {r : ℕ} → r ≢ Temp → r ≢ Ret → InTempOrRet r → ⊥
      neither p q (inl e) = p e
      neither p q (inr e) = q e

module _ (m : Meaning) where
  -- the operations of a product put it in e, for e the destination or Temp, wherever P holds, which stays
  pub record Multiplies (W : ℕ → Type 0) (P : State m.Value → Type 0) (e : ℕ) (ops : (d s1 s2 : ℕ) → List Op)
      (times : m.Value → m.Value → m.Value) : Type 0 where
    pub puts : (s1 s2 : ℕ) (z : State m.Value) → P z →
        Puts W e (times (z.registers s1) (z.registers s2)) z (run_ops m (ops e s1 s2) z)
    pub keeps : (s1 s2 : ℕ) (z : State m.Value) → P z → P (run_ops m (ops e s1 s2) z)

  module _ (W : ℕ → Type 0) (P : State m.Value → Type 0) (d : ℕ) (ops : (d s1 s2 : ℕ) → List Op)
      (times : m.Value → m.Value → m.Value) (notTemp : d ≢ Temp) (kept : W d → ⊥) (tempKept : W Temp → ⊥)
      (in_d : Multiplies W P d ops times) (inTemp : Multiplies W P Temp ops times) where
    -- a state in which x is gathered, and what has been written
    pub record Gathered (x : m.Value) (z z' : State m.Value) : Type 0 where
      pub memory_kept : z'.memory ≡ z.memory
      pub others_kept : (r : ℕ) → r ≢ d → r ≢ Temp → (W r → ⊥) → z'.registers r ≡ z.registers r
      pub holds : P z'
      pub has : z'.registers d ≡ x

    then_gathered : {x y : m.Value} {z z₁ z₂ : State m.Value} → Gathered x z z₁ → Gathered y z₁ z₂ → Gathered y z z₂
    then_gathered a b =
        record {
          memory_kept = b.memory_kept ∙ a.memory_kept;
          others_kept = λ r n t k. b.others_kept r n t k ∙ a.others_kept r n t k;
          holds = b.holds;
          has = b.has;
        }

    into_d : (s1 s2 : ℕ) (z : State m.Value) → P z →
        Gathered (times (z.registers s1) (z.registers s2)) z (run_ops m (ops d s1 s2) z)
    into_d s1 s2 z p =
        let k = in_d.puts s1 s2 z p in
        record {
          memory_kept = k.memory_kept;
          others_kept = λ r n t w. k.others_kept r n w;
          holds = in_d.keeps s1 s2 z p;
          has = k.put;
        }

    into_temp : (s1 s2 : ℕ) (z : State m.Value) → P z → Gathered (z.registers d) z (run_ops m (ops Temp s1 s2) z)
    into_temp s1 s2 z p =
        let k = inTemp.puts s1 s2 z p in
        record {
          memory_kept = k.memory_kept;
          others_kept = λ r n t w. k.others_kept r t w;
          holds = inTemp.keeps s1 s2 z p;
          has = k.others_kept d notTemp kept;
        }

    -- a digit's product: the destination takes Temp in, or stays; Temp stays
    taken : (b : Bool) (z : State m.Value) → P z →
        Gathered (cond b (times (z.registers d) (z.registers Temp)) (z.registers d)) z (run_ops m (cond b (ops d d Temp) []) z)
        × ((run_ops m (cond b (ops d d Temp) []) z).registers Temp ≡ z.registers Temp)
    unfolding run_ops
    taken true z p = (into_d d Temp z p, (in_d.puts d Temp z p).others_kept Temp (λ e. notTemp (sym e)) tempKept)
    taken false z p = (record { memory_kept = refl; others_kept = λ r n t w. refl; holds = p; has = refl }, refl)

    gather_runs : (bs : List Bool) (s : ℕ) (z : State m.Value) → P z →
        Gathered (gathered times (z.registers d) (z.registers s) bs) z (run_ops m (gather_ops ops d s bs) z)
    unfolding run_ops gather_ops gathered
    gather_runs [] s z p = record { memory_kept = refl; others_kept = λ r n t w. refl; holds = p; has = refl }
    gather_runs (b ∷ bs) s z p =
        let z₁ = run_ops m (ops Temp s s) z in
        let z₂ = run_ops m (cond b (ops d d Temp) []) z₁ in
        let square = into_temp s s z p in
        let inTemp₁ = (inTemp.puts s s z p).put in
        let product = taken b z₁ square.holds in
        let rest = gather_runs bs Temp z₂ product.0.holds in
        rw (run_append m (digit_ops ops d s b), run_append)
        (rw (product.1, product.0.has, inTemp₁, square.has) at (then_gathered square (then_gathered product.0 rest)))

    square_runs : (n : ℕ) (z : State m.Value) → P z →
        Gathered (squared times n (z.registers d)) z (run_ops m (square_ops ops d n) z)
    unfolding run_ops square_ops squared
    square_runs zero z p = record { memory_kept = refl; others_kept = λ r n t w. refl; holds = p; has = refl }
    square_runs (suc n) z p =
        let one = into_d d d z p in
        let rest = square_runs n (run_ops m (ops d d d) z) one.holds in
        rw run_append (rw one.has at (then_gathered one rest))

    module _ (moves : (v : m.Value) (z : State m.Value) → P z → P (set_register z d v)) where
      move_gathers : (s : ℕ) (z : State m.Value) → P z → Gathered (z.registers s) z (set_register z d (z.registers s))
      move_gathers s z p =
          record {
            memory_kept = refl;
            others_kept = λ r n t w. update_other _ _ _ _ n;
            holds = moves _ z p;
            has = update_same _ _ _ _ refl;
          }

      positive_runs : (size s : ℕ) (z : State m.Value) → P z →
          Gathered (positive_value times size (z.registers s)) z (run_ops m (positive_ops ops size d s) z)
      unfolding run_ops operate positive_ops positive_value
      positive_runs size s z p =
          let z₁ = set_register z d (z.registers s) in
          let z₂ = run_ops m (gather_ops ops d s (higher size)) z₁ in
          let start = move_gathers s z p in
          let gather = gather_runs (higher size) s z₁ start.holds in
          let close = square_runs (closing size) z₂ gather.holds in
          rw run_append
          (rw (gather.has, start.has, update_itself z.registers d s) at (then_gathered start (then_gathered gather close)))

  plain_multiplies : (e : ℕ) → Multiplies NoOther (λ z. Unit {0}) e (product_ops None) (times_value m)
  unfolding run_ops operate binary_value binary_form
  plain_multiplies e = record { puts = λ s1 s2 z p. set_puts NoOther e _ z; keeps = λ s1 s2 z p. tt }

  modulo_multiplies : (e r : ℕ) (y : m.Value) → e ≢ Ret → r ≢ Ret → r ≢ e →
      Multiplies (λ q. q ≡ Ret) (λ z. z.registers r ≡ y) e (product_ops (Some r)) (times_mod_value m y)
  unfolding run_ops operate unary_value binary_value unary_form binary_form
  modulo_multiplies e r y n₁ n₂ n₃ =
      record {
        puts = λ s1 s2 z p.
            record {
              memory_kept = refl;
              others_kept = λ q n k. simp update_other;
              put = simp (update_same, update_other, p);
            };
        keeps = λ s1 s2 z p. simp update_other p;
      }

  whole_runs : (size d s : ℕ) → d ≢ Temp → (z : State m.Value) →
      Puts InTemp d (positive_value (times_value m) size (z.registers s)) z (run_ops m (positive_ops (product_ops None) size d s) z)
  whole_runs size d s n z =
      let k = positive_runs NoOther (λ z. Unit {0}) d (product_ops None) (times_value m) n (λ w. w) (λ w. w) (plain_multiplies d)
      (plain_multiplies Temp) (λ v z p. tt) size s z tt in
      record { memory_kept = k.memory_kept; others_kept = λ r a b. k.others_kept r a b (λ w. w); put = k.has }

  modulo_runs : (size d s r : ℕ) → d < Temp → r < Temp → r ≢ d → (z : State m.Value) →
      Puts InTempOrRet d (positive_value (times_mod_value m (z.registers r)) size (z.registers s)) z
      (run_ops m (positive_ops (product_ops (Some r)) size d s) z)
  modulo_runs size d s r h₁ h₂ n z =
      let d≢Temp : d ≢ Temp = omega arith in
      let d≢Ret : d ≢ Ret = omega arith in
      let t≢Ret : Temp ≢ Ret = omega arith in
      let r≢Ret : r ≢ Ret = omega arith in
      let r≢Temp : r ≢ Temp = omega arith in
      let y = z.registers r in
      let k = positive_runs (λ q. q ≡ Ret) (λ z'. z'.registers r ≡ y) d (product_ops (Some r)) (times_mod_value m y)
      d≢Temp d≢Ret t≢Ret (modulo_multiplies d r y d≢Ret r≢Ret n) (modulo_multiplies Temp r y t≢Ret r≢Ret r≢Temp)
      (λ v z' p. update_other _ _ _ _ n ∙ p) size s z refl in
      record {
        memory_kept = k.memory_kept;
        others_kept = λ q a b. k.others_kept q a (λ e. b (inl e)) (λ e. b (inr e));
        put = k.has;
      }

  -- a power's operations leave its value where its argument was
  pub power_runs : (stable : Bool) (p : ℤ) (d : ℕ) → d ≢ Temp → (z : State m.Value) →
      Puts InTemp d (power_value m (times_value m) stable p (z.registers d)) z (run_ops m (power_ops None stable p d d) z)
  unfolding run_ops operate power_ops power_value unary_value binary_value unary_form binary_form
  power_runs stable (pos zero) d n z = set_puts InTemp d _ z
  power_runs stable (pos (suc k)) d n z = whole_runs (suc k) d d n z
  power_runs true (negsuc k) d n z =
      let first = set_puts InTemp d (m.unary_of recip_code (z.registers d)) z in
      rw first.put at (puts_then first (whole_runs (suc k) d d n (set_register z d (m.unary_of recip_code (z.registers d)))))
  power_runs false (negsuc k) d n z =
      let z₁ = run_ops m (positive_ops (product_ops None) (suc k) d d) z in
      let power = whole_runs (suc k) d d n z in
      rw run_append (puts_as (ap (m.unary_of recip_code) power.put) (puts_then power (set_puts InTemp d _ z₁)))

  -- under a modulus, which stays in its register
  pub power_mod_runs : (p : ℤ) (d r : ℕ) → d < Temp → r < Temp → r ≢ d → (z : State m.Value) →
      Puts InTempOrRet d (power_value m (times_mod_value m (z.registers r)) false p (z.registers d)) z
      (run_ops m (power_ops (Some r) false p d d) z)
  unfolding power_ops power_value
  power_mod_runs (pos zero) d r h₁ h₂ n z = puts_wider (λ q e. inl e) (power_runs false (pos zero) d (omega arith) z)
  power_mod_runs (pos (suc k)) d r h₁ h₂ n z = modulo_runs (suc k) d d r h₁ h₂ n z
  power_mod_runs (negsuc k) d r h₁ h₂ n z = puts_wider (λ q e. inl e) (power_runs false (negsuc k) d (omega arith) z)

  -- as evaluation needs it: the argument, or the base, lies in the destination
  pub power_lands : (stable : Bool) (p : ℤ) (d : ℕ) → d < Temp → (z : State m.Value) →
      Lands d 1 (power_value m (times_value m) stable p (z.registers d)) z (run_ops m (power_ops None stable p d d) z)
  power_lands stable p d h z = puts_lands (puts_wider (λ q e. inl e) (power_runs stable p d (omega arith) z))

  pub power_mod_lands : (p : ℤ) (d r : ℕ) → d < Temp → r < Temp → r ≢ d → (z : State m.Value) →
      Lands d 1 (power_value m (times_mod_value m (z.registers r)) false p (z.registers d)) z
      (run_ops m (power_ops (Some r) false p d d) z)
  power_mod_lands p d r h k n z = puts_lands (power_mod_runs p d r h k n z)
