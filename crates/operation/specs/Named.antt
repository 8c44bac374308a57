-- The numbers of the codes that operations have.
use Rattle.std.specs.Prelude.{◌≡◌, ℕ, Option, None, Some}
use Rattle.operation.specs.declared.other.OtherUnary.{OtherUnary}
use Rattle.operation.specs.declared.other.OtherBinary.{OtherBinary}
use Rattle.operation.specs.declared.UnaryCode.{UnaryCode}
use Rattle.operation.specs.declared.UnaryCode.TheVariants.{Other as Unnamed}
use Rattle.operation.specs.declared.BinaryCode.{BinaryCode}
use Rattle.operation.specs.declared.BinaryCode.TheVariants.{Other as UnnamedTwo}
use Rattle.operation.specs.Numbers.{unary_number, binary_number}

-- n is the number of a code, unless no operation has it
abbrev pub NamedUnary : UnaryCode → ℕ → Type 0
NamedUnary c n = ((o : OtherUnary) → c ≡ Unnamed o → ⊥) → n ≡ unary_number c

abbrev pub NamedBinary : BinaryCode → ℕ → Type 0
NamedBinary c n = ((o : OtherBinary) → c ≡ UnnamedTwo o → ⊥) → n ≡ binary_number c

-- r is the number of a code that no operation has
abbrev pub OtherUnaryNumber : UnaryCode → Option ℕ → Type 0
OtherUnaryNumber c None = (o : OtherUnary) → c ≡ Unnamed o → ⊥
OtherUnaryNumber c (Some n) = n ≡ unary_number c

abbrev pub OtherBinaryNumber : BinaryCode → Option ℕ → Type 0
OtherBinaryNumber c None = (o : OtherBinary) → c ≡ UnnamedTwo o → ⊥
OtherBinaryNumber c (Some n) = n ≡ binary_number c
