-- A node without a mark is what it was unpacked as.
use Rattle.std.proofs.Common.{arith, inl, inr}
use Rattle.ershov.proofs.Numbers.{known_low, known_room}
use Rattle.evaluator.proofs.Planning.{leaf_unmarked}
use Rattle.evaluator.proofs.Evaluator.leaf_of.Goals as goal

pub get-requires : goal.get-requires
get-requires c = known_low c.requires

pub unpack-requires : goal.unpack-requires
unpack-requires c = known_room c.requires

pub returns-in-Const : goal.returns-in-Const
returns-in-Const c = leaf_unmarked c.args.self.now c.args.i (omega (arith, c.in_default.ensures)) c.requires c.unpack.ensures c.in-Const.is

pub returns-in-Var : goal.returns-in-Var
returns-in-Var c = leaf_unmarked c.args.self.now c.args.i (omega (arith, c.in_default.ensures)) c.requires c.unpack.ensures c.in-Var.is

pub returns-in-Unary : goal.returns-in-Unary
returns-in-Unary c =
    elim c.in-Unary.is [
      | inl o ↦ leaf_unmarked c.args.self.now c.args.i (omega (arith, c.in_default.ensures)) c.requires c.unpack.ensures o.1
      | inr o ↦ leaf_unmarked c.args.self.now c.args.i (omega (arith, c.in_default.ensures)) c.requires c.unpack.ensures o.2
    ]
