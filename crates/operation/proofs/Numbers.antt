-- Codes, kinds and their numbers: each number has one code, and gives it back; a kind gives its number back. Assumes nothing.
use Prim.Native.Nat.{ℕ, zero, suc, ◌+◌, ◌-◌, ◌<◌, ◌≤◌}
use native.Mathlib.Omega.{arith}
use mathlib.Core.Bool.{Bool, true, false, false≢true, Bool-set}
use mathlib.Core.List.{List, [], ◌∷◌, map}
use mathlib.Core.Path.{◌≡◌, refl, sym, ap, ◌∙◌}
use lib.ListN.{length, get_or}
use Rattle.std.proofs.lemmas.Bool.Decides.{nat_tests}
use Rattle.operation.specs.declared.UnaryCode.{UnaryCode}
use Rattle.operation.specs.declared.UnaryCode.TheVariants.{Neg, Not, Abs, Abs2, TimesI, TimesNegI, Root, RealRoot, Square, Cube}
use Rattle.operation.specs.declared.UnaryCode.TheVariants.{Recip, Round, Floor, Ceiling, Trunc, Frac, Real, Imaginary, Conjugate}
use Rattle.operation.specs.declared.UnaryCode.TheVariants.{IsZero, IsNotZero, Other as Unnamed}
use Rattle.operation.specs.declared.other.OtherUnary.{OtherUnary}
use Rattle.operation.specs.declared.other.OtherBinary.{OtherBinary}
use Rattle.operation.specs.declared.BinaryCode.{BinaryCode}
use Rattle.operation.specs.declared.BinaryCode.TheVariants.{Plus, Minus, Times, Divide, Rem, Gt, Geq, Lt, Leq, Eq, Neq, And, Or, Xor}
use Rattle.operation.specs.declared.BinaryCode.TheVariants.{Complex, Other as UnnamedTwo}
use Rattle.operation.specs.Codes.{is_unary, is_binary}
use Rattle.operation.specs.declared.Kind.{Kind}
use Rattle.operation.specs.Kinds.{kind_number, numbered_kind}
use Rattle.operation.specs.Numbers.{unary_number, unary_codes, numbered_unary, unary_code}
use Rattle.operation.specs.Numbers.{binary_number, binary_codes, numbered_binary, binary_code}

-- a number that no code has is the code of itself
unary_by : (o : OtherUnary) (b : Bool) (q : is_unary o.number ≡ b) → b ≡ false → numbered_unary o.number b q ≡ Unnamed o
unary_by o true q e = absurd (false≢true (sym e))
unary_by o false q e =
    ap (λ (u : is_unary o.number ≡ false). Unnamed (record { number = o.number; unknown = u })) (Bool-set _ _ q o.unknown)

binary_by : (o : OtherBinary) (b : Bool) (q : is_binary o.number ≡ b) → b ≡ false → numbered_binary o.number b q ≡ UnnamedTwo o
binary_by o true q e = absurd (false≢true (sym e))
binary_by o false q e =
    ap (λ (u : is_binary o.number ≡ false). UnnamedTwo (record { number = o.number; unknown = u })) (Bool-set _ _ q o.unknown)

pub unary_code_back : (c : UnaryCode) → unary_code (unary_number c) ≡ c
unfolding unary_number unary_code
unary_code_back Neg = refl
unary_code_back Not = refl
unary_code_back Abs = refl
unary_code_back Abs2 = refl
unary_code_back TimesI = refl
unary_code_back TimesNegI = refl
unary_code_back Root = refl
unary_code_back RealRoot = refl
unary_code_back Square = refl
unary_code_back Cube = refl
unary_code_back Recip = refl
unary_code_back Round = refl
unary_code_back Floor = refl
unary_code_back Ceiling = refl
unary_code_back Trunc = refl
unary_code_back Frac = refl
unary_code_back Real = refl
unary_code_back Imaginary = refl
unary_code_back Conjugate = refl
unary_code_back IsZero = refl
unary_code_back IsNotZero = refl
unary_code_back (Unnamed o) = unary_by o (is_unary o.number) refl o.unknown

pub binary_code_back : (c : BinaryCode) → binary_code (binary_number c) ≡ c
unfolding binary_number binary_code
binary_code_back Plus = refl
binary_code_back Minus = refl
binary_code_back Times = refl
binary_code_back Divide = refl
binary_code_back Rem = refl
binary_code_back Gt = refl
binary_code_back Geq = refl
binary_code_back Lt = refl
binary_code_back Leq = refl
binary_code_back Eq = refl
binary_code_back Neq = refl
binary_code_back And = refl
binary_code_back Or = refl
binary_code_back Xor = refl
binary_code_back Complex = refl
binary_code_back (UnnamedTwo o) = binary_by o (is_binary o.number) refl o.unknown

pub other_unary : (o : OtherUnary) → Unnamed o ≡ unary_code o.number
unfolding unary_number
other_unary o = sym (unary_code_back (Unnamed o))

pub other_binary : (o : OtherBinary) → UnnamedTwo o ≡ binary_code o.number
unfolding binary_number
other_binary o = sym (binary_code_back (UnnamedTwo o))

-- so many numbers from m on, and which of them stands where
counting : (m many : ℕ) → List ℕ
counting m zero = []
counting m (suc k) = m ∷ counting (suc m) k

counted : {A : Type 0} (f : A → ℕ) (m : ℕ) (cs : List A) (d : A) → map f cs ≡ counting m (length cs) → (k : ℕ) → k < length cs
    → f (get_or cs k d) ≡ m + k
unfolding counting
counted f m [] d e k l = absurd (omega arith)
counted f m (c ∷ cs) d e zero l = let first : f c ≡ m = cc in omega (arith, first)
counted f m (c ∷ cs) d e (suc k) l =
    let rest : map f cs ≡ counting (suc m) (length cs) = cc in
    omega (arith, counted f (suc m) cs d rest k (omega arith))

-- so each number is its code's
numbered_back : (n : ℕ) (b : Bool) (q : is_unary n ≡ b) → unary_number (numbered_unary n b q) ≡ n
unfolding unary_number counting
numbered_back n true q =
    let from : 1 ≤ n = grind (arith, nat_tests) in
    let to : n ≤ 21 = grind (arith, nat_tests) in
    omega (arith, counted unary_number 1 unary_codes Neg refl (n - 1) (omega arith))
numbered_back n false q = refl

pub unary_number_back : (n : ℕ) → unary_number (unary_code n) ≡ n
unfolding unary_code
unary_number_back n = numbered_back n (is_unary n) refl

numbered_two_back : (n : ℕ) (b : Bool) (q : is_binary n ≡ b) → binary_number (numbered_binary n b q) ≡ n
unfolding binary_number counting
numbered_two_back n true q =
    let from : 1 ≤ n = grind (arith, nat_tests) in
    let to : n ≤ 15 = grind (arith, nat_tests) in
    omega (arith, counted binary_number 1 binary_codes Plus refl (n - 1) (omega arith))
numbered_two_back n false q = refl

pub binary_number_back : (n : ℕ) → binary_number (binary_code n) ≡ n
unfolding binary_code
binary_number_back n = numbered_two_back n (is_binary n) refl

pub kind_back : (k : Kind) → numbered_kind (kind_number k) ≡ k
unfolding kind_number numbered_kind
kind_back k = grind arith

-- so numbers tell codes apart
pub unary_number_tells : (c d : UnaryCode) → unary_number c ≡ unary_number d → c ≡ d
unary_number_tells c d e = sym (unary_code_back c) ∙ ap unary_code e ∙ unary_code_back d

pub binary_number_tells : (c d : BinaryCode) → binary_number c ≡ binary_number d → c ≡ d
binary_number_tells c d e = sym (binary_code_back c) ∙ ap binary_code e ∙ binary_code_back d
