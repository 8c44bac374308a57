-- A name is short, and a number past a byte has none. Assumes nothing.
use Prim.Native.Nat.{ℕ, ◌≤◌}
use native.Mathlib.Omega.{arith}
use mathlib.Core.Bool.{Bool, true, false, cond}
use mathlib.Core.List.{List, []}
use mathlib.Core.Path.{◌≡◌}
use lib.ListN.{length}
use Rattle.std.proofs.lemmas.Bool.Decides.{nat_tests}
use Rattle.operation.specs.declared.UnaryCode.{UnaryCode}
use Rattle.operation.specs.declared.BinaryCode.{BinaryCode}
use Rattle.operation.specs.Codes.{is_unary, is_binary}
use Rattle.operation.specs.Numbers.{unary_code, binary_code}
use Rattle.operation.specs.Names.{bytes, unary_text, unary_name, binary_text, binary_name}

pub unary_text_short : (c : UnaryCode) → length (unary_text c) ≤ 12
unfolding bytes
unary_text_short c = grind arith

pub binary_text_short : (c : BinaryCode) → length (binary_text c) ≤ 12
unfolding bytes
binary_text_short c = grind arith

named_short : (b : Bool) (name : List ℕ) → length name ≤ 12 → length (cond b name []) ≤ 12
named_short true name h = h
named_short false name h = omega arith

pub unary_name_short : (n : ℕ) → length (unary_name n) ≤ 12
unary_name_short n = named_short (is_unary n) (unary_text (unary_code n)) (unary_text_short (unary_code n))

pub binary_name_short : (n : ℕ) → length (binary_name n) ≤ 12
binary_name_short n = named_short (is_binary n) (binary_text (binary_code n)) (binary_text_short (binary_code n))

pub unary_name_past : (n : ℕ) → 256 ≤ n → unary_name n ≡ []
unary_name_past n h = let none : is_unary n ≡ false = grind (arith, nat_tests) in rw none

pub binary_name_past : (n : ℕ) → 256 ≤ n → binary_name n ≡ []
binary_name_past n h = let none : is_binary n ≡ false = grind (arith, nat_tests) in rw none
