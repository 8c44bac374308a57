-- The codes of operations as an enum has them, and their numbers: document 01, 'symbol.rs, operation.rs'.
use Rattle.std.specs.Prelude.{◌≡◌, refl, ℕ, ◌-◌, Bool, true, false, List, [], ◌∷◌, get_or, Result, MatchResult}
use Rattle.operation.specs.declared.UnaryCode.{UnaryCode}
use Rattle.operation.specs.declared.UnaryCode.TheVariants.{Neg, Not, Abs, Abs2, TimesI, TimesNegI, Root, RealRoot, Square, Cube}
use Rattle.operation.specs.declared.UnaryCode.TheVariants.{Recip, Round, Floor, Ceiling, Trunc, Frac, Real, Imaginary, Conjugate}
use Rattle.operation.specs.declared.UnaryCode.TheVariants.{IsZero, IsNotZero, Other as OtherUnary}
use Rattle.operation.specs.declared.BinaryCode.{BinaryCode}
use Rattle.operation.specs.declared.BinaryCode.TheVariants.{Plus, Minus, Times, Divide, Rem, Gt, Geq, Lt, Leq, Eq, Neq, And, Or, Xor}
use Rattle.operation.specs.declared.BinaryCode.TheVariants.{Complex, Other as OtherBinary}
use Rattle.operation.specs.declared.UnknownCode.{UnknownCode}
use Rattle.operation.specs.Codes.{is_unary, is_binary}

-- the numbers of the unary codes
unfoldable pub unary_number : UnaryCode → ℕ
unary_number Neg = 1
unary_number Not = 2
unary_number Abs = 3
unary_number Abs2 = 4
unary_number TimesI = 5
unary_number TimesNegI = 6
unary_number Root = 7
unary_number RealRoot = 8
unary_number Square = 9
unary_number Cube = 10
unary_number Recip = 11
unary_number Round = 12
unary_number Floor = 13
unary_number Ceiling = 14
unary_number Trunc = 15
unary_number Frac = 16
unary_number Real = 17
unary_number Imaginary = 18
unary_number Conjugate = 19
unary_number IsZero = 20
unary_number IsNotZero = 21
unary_number (OtherUnary o) = o.number

-- and back: each number has one code, its own where it is none of these
abbrev pub unary_codes : List UnaryCode
unary_codes =
    Neg ∷ Not ∷ Abs ∷ Abs2 ∷ TimesI ∷ TimesNegI ∷ Root ∷ RealRoot ∷ Square ∷ Cube ∷ Recip
    ∷ Round ∷ Floor ∷ Ceiling ∷ Trunc ∷ Frac ∷ Real ∷ Imaginary ∷ Conjugate ∷ IsZero ∷ IsNotZero ∷ []

abbrev pub numbered_unary : (n : ℕ) (b : Bool) → is_unary n ≡ b → UnaryCode
numbered_unary n true e = get_or unary_codes (n - 1) Neg
numbered_unary n false e = OtherUnary (record { number = n; unknown = e })

unfoldable pub unary_code : ℕ → UnaryCode
unary_code n = numbered_unary n (is_unary n) refl

-- the numbers of the binary codes, and back
unfoldable pub binary_number : BinaryCode → ℕ
binary_number Plus = 1
binary_number Minus = 2
binary_number Times = 3
binary_number Divide = 4
binary_number Rem = 5
binary_number Gt = 6
binary_number Geq = 7
binary_number Lt = 8
binary_number Leq = 9
binary_number Eq = 10
binary_number Neq = 11
binary_number And = 12
binary_number Or = 13
binary_number Xor = 14
binary_number Complex = 15
binary_number (OtherBinary o) = o.number

abbrev pub binary_codes : List BinaryCode
binary_codes =
    Plus ∷ Minus ∷ Times ∷ Divide ∷ Rem ∷ Gt ∷ Geq ∷ Lt ∷ Leq ∷ Eq ∷ Neq
    ∷ And ∷ Or ∷ Xor ∷ Complex ∷ []

abbrev pub numbered_binary : (n : ℕ) (b : Bool) → is_binary n ≡ b → BinaryCode
numbered_binary n true e = get_or binary_codes (n - 1) Plus
numbered_binary n false e = OtherBinary (record { number = n; unknown = e })

unfoldable pub binary_code : ℕ → BinaryCode
binary_code n = numbered_binary n (is_binary n) refl

-- what is read of a number: its code, or that no code has it
abbrev pub ReadsUnary : ℕ → Result UnaryCode UnknownCode → Type 0
ReadsUnary n r = MatchResult r (λ c. (c ≡ unary_code n) × (is_unary n ≡ true)) (λ e. (e.0 ≡ n) × (is_unary n ≡ false))

abbrev pub ReadsBinary : ℕ → Result BinaryCode UnknownCode → Type 0
ReadsBinary n r = MatchResult r (λ c. (c ≡ binary_code n) × (is_binary n ≡ true)) (λ e. (e.0 ≡ n) × (is_binary n ≡ false))
