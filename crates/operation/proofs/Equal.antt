-- Operators that are equal by == are one operator. Assumes nothing.
use mathlib.Core.Path.{◌≡◌, ap}
use mathlib.Core.Bool.{true}
use Rattle.std.proofs.Common.{rules}
use Rattle.operation.specs.declared.One.{One}
use Rattle.operation.specs.declared.One.TheVariants.{Unary, Power, Function1}
use Rattle.operation.specs.declared.Two.{Two}
use Rattle.operation.specs.declared.Two.TheVariants.{Binary, Choice, PowerMod, Function2}
use Rattle.operation.specs.contracts.OnePartialEq.TheImpl as one_eq
use Rattle.operation.specs.contracts.TwoPartialEq.TheImpl as two_eq
use Rattle.operation.specs.Numbers.{unary_number, binary_number}
use Rattle.operation.proofs.Numbers.{unary_number_tells, binary_number_tells}

pub one_tells : (o u : One) → (one_eq.ghosts).eq o u ≡ true → o ≡ u
one_tells (Unary c) (Unary d) e =
    let numbers : unary_number c ≡ unary_number d = search rules in
    ap Unary (unary_number_tells c d numbers)
one_tells (Unary c) (Power t v) e = search rules
one_tells (Unary c) (Function1 g) e = search rules
one_tells (Power s w) (Unary d) e = search rules
one_tells (Power s w) (Power t v) e = search rules
one_tells (Power s w) (Function1 g) e = search rules
one_tells (Function1 f) (Unary d) e = search rules
one_tells (Function1 f) (Power t v) e = search rules
one_tells (Function1 f) (Function1 g) e = search rules

pub two_tells : (o u : Two) → (two_eq.ghosts).eq o u ≡ true → o ≡ u
two_tells (Binary c) (Binary d) e =
    let numbers : binary_number c ≡ binary_number d = search rules in
    ap Binary (binary_number_tells c d numbers)
two_tells (Binary c) (Choice q) e = search rules
two_tells (Binary c) (PowerMod v) e = search rules
two_tells (Binary c) (Function2 g) e = search rules
two_tells (Choice p) (Binary d) e = search rules
two_tells (Choice p) (Choice q) e = search rules
two_tells (Choice p) (PowerMod v) e = search rules
two_tells (Choice p) (Function2 g) e = search rules
two_tells (PowerMod w) (Binary d) e = search rules
two_tells (PowerMod w) (Choice q) e = search rules
two_tells (PowerMod w) (PowerMod v) e = search rules
two_tells (PowerMod w) (Function2 g) e = search rules
two_tells (Function2 f) (Binary d) e = search rules
two_tells (Function2 f) (Choice q) e = search rules
two_tells (Function2 f) (PowerMod v) e = search rules
two_tells (Function2 f) (Function2 g) e = search rules
