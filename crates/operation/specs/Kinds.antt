-- The kinds of operations as an enum has them, and their numbers: document 01, 'The sheet and the list'; T-01.
use Rattle.std.specs.Prelude.{ℕ, cond, eqb}
use Rattle.operation.specs.declared.Kind.{Kind}
use Rattle.operation.specs.declared.Kind.TheVariants.{LoadConst, LoadVar, Save, Mov, Xchg, Uni, Bi, IfElse, LoadMath, LoadConstMath}
use Rattle.operation.specs.declared.Kind.TheVariants.{Call, Need}

unfoldable pub kind_number : Kind → ℕ
kind_number LoadConst = 1
kind_number LoadVar = 2
kind_number Save = 3
kind_number Mov = 4
kind_number Xchg = 5
kind_number Uni = 6
kind_number Bi = 7
kind_number IfElse = 8
kind_number LoadMath = 9
kind_number LoadConstMath = 10
kind_number Call = 11
kind_number Need = 12

-- and back: a number that no kind has is read as a need, which does nothing
unfoldable pub numbered_kind : ℕ → Kind
numbered_kind n =
    cond (eqb n 1) LoadConst
    (cond (eqb n 2) LoadVar
    (cond (eqb n 3) Save
    (cond (eqb n 4) Mov
    (cond (eqb n 5) Xchg
    (cond (eqb n 6) Uni
    (cond (eqb n 7) Bi
    (cond (eqb n 8) IfElse
    (cond (eqb n 9) LoadMath
    (cond (eqb n 10) LoadConstMath
    (cond (eqb n 11) Call Need))))))))))
