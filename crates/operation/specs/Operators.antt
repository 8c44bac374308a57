-- Operators by kind: document 01, 'These codes and the choice are intrinsic; functions f0 to f255 are not'; T-02.
use Rattle.std.specs.Prelude.{ℕ, ◌+◌, ◌*◌, ◌/◌, ◌%◌, Bool, true, false}
use Rattle.operation.specs.declared.Word.{Word}
use Rattle.operation.specs.declared.One.{One}
use Rattle.operation.specs.declared.One.TheVariants.{Unary, Power, Function1}
use Rattle.operation.specs.declared.Two.{Two}
use Rattle.operation.specs.declared.Two.TheVariants.{Binary, Choice, PowerMod, Function2}

-- a word of 32 bits and its halves
abbrev pub whole_of : Word → ℕ
whole_of w = w.0 + 65536 * w.1

abbrev pub halves_of : ℕ → Word
halves_of x = (x % 65536, x / 65536)

abbrev pub is_function1 : One → Bool
is_function1 (Unary c) = false
is_function1 (Power stable w) = false
is_function1 (Function1 f) = true

abbrev pub is_function2 : Two → Bool
is_function2 (Binary c) = false
is_function2 (Choice p) = false
is_function2 (PowerMod w) = false
is_function2 (Function2 f) = true
