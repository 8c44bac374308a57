-- Demand 3 is not empty: a meaning, a sheet, its list and a start that meet all it asks, with the numbers that come out.
use Prim.Native.Nat.{ℕ, ◌+◌, ◌*◌, ◌-◌, ◌/◌}
use native.Mathlib.Nat.{add_comm, mul_comm}
use native.Mathlib.Omega.{arith}
use mathlib.Core.Path.{◌≡◌, refl}
use mathlib.Core.Logic.{◌≢◌, ⊎_elim}
use mathlib.Core.Bool.{Bool, true, false, cond, ◌&&◌}
use mathlib.Core.List.{List, [], ◌∷◌, map}
use lib.ListN.{set}
use lib.Dec.{eqb, ltb}
use borrow.Author.Tests.{ltb-true}
use Rattle.limits.specs.Limits.{work_words}
use Rattle.symbol.specs.declared.Loc.{Loc}
use Rattle.symbol.specs.declared.Loc.TheVariants.{Stack, Mem, Param}
use Rattle.symbol.specs.Place.{kind_of, index_of}
use Rattle.operation.specs.Codes.{plus_code, minus_code, times_code, divide_code, commutes}
use Rattle.operation.specs.Names.{bytes}
use Rattle.operation.specs.declared.UnaryCode.TheVariants.{Round, Floor}
use Rattle.operation.specs.declared.BinaryCode.TheVariants.{Plus, Minus, Times, Divide}
use Rattle.operation.specs.declared.One.TheVariants.{Unary, Function1}
use Rattle.operation.specs.declared.Two.TheVariants.{Binary, Choice, Function2}
use Rattle.definitions.specs.Tree.{Tree, constant, variable, one, two, reads}
use Rattle.definitions.specs.Statement.{Statement, assign}
use Rattle.definitions.specs.Sheet.{got, Bytes, sheet_of}
use Rattle.definitions.specs.Operations.{Op, op_load, op_save, op_call, op_need, list_words, words_op, words_list}
use Rattle.definitions.specs.Answer.{answer}
use Rattle.definitions.specs.Meaning.{Meaning, Commuting, put, unary_value, binary_value, value, perform, perform_all}
use Rattle.definitions.specs.Meaning.{is_in, assigned, orderly}
use Rattle.definitions.specs.Run.{State, update, operate, run_ops, run}
use Rattle.definitions.specs.Claims.{WritesOnly, EachOp, Below, NeedsHold, list_of}
use Rattle.definitions.specs.Demand.{RunsAsSheet, AcceptedRuns}
use Rattle.definitions.proofs.Comparing.{and_both}
use Rattle.definitions.proofs.Demand.{whole_list_agrees, accepted_runs}
use Rattle.definitions.proofs.Computing.{◌++◌, from_digits, answer_to}

-- a meaning over the natural numbers: what the seven that commute give, and what the other binary codes give
abbrev pub exchanging : (c x y : ℕ) → ℕ
exchanging c x y = cond (eqb c plus_code) (x + y) (cond (eqb c times_code) (x * y) (c + x * y))

abbrev pub ordered : (c x y : ℕ) → ℕ
ordered c x y = cond (eqb c minus_code) (x - y) (cond (eqb c divide_code) (x / y) (c + x + 2 * y))

abbrev pub house : Meaning
house = record {
  Value = ℕ;
  constant_of = λ i. i + 3;
  unary_of = λ c x. c + x;
  binary_of = λ c x y. cond (commutes c) (exchanging c x y) (ordered c x y);
  choice_of = λ b x y. cond (eqb b 0) y x;
  function1_of = λ f x. 1000 * f + x;
  function2_of = λ f x y. 1000 * f + 3 * x + y;
}

-- the seven commute in it, and nothing else of two values does
pub seven_commute : Commuting house
seven_commute c h x y = rw (h, add_comm x y, mul_comm x y)

pub others_do_not : (c : ℕ) → commutes c ≡ false → house.binary_of c 2 1 ≢ house.binary_of c 1 2
others_do_not c h e = go (eqb c minus_code) (eqb c divide_code) (rw h at e)
  where
    go : (a b : Bool) → cond a 1 (cond b 2 (c + 2 + 2)) ≢ cond a 0 (cond b 0 (c + 1 + 4))
    go true b e = omega arith
    go false true e = omega arith
    go false false e = omega arith

pub choice_does_not : house.choice_of 1 2 3 ≢ house.choice_of 1 3 2
choice_does_not e = omega arith

pub function_of_two_does_not : (f : ℕ) → house.function2_of f 1 2 ≢ house.function2_of f 2 1
function_of_two_does_not f e = omega arith

pub values_differ : house.constant_of 0 ≢ house.constant_of 1
values_differ e = omega arith

-- a sheet of 2 scratch registers, sharing, fused loads, step 3 and first temporary 10:
-- s0 = (m0 + m1) × (m3 − m2)
-- s1 = round(f1((m0 + m1) × (m3 − m2)) / c2) − floor(m0)
-- m9 = if p0 then f2(s1, m0) else s0
unfoldable pub file : List ℕ
unfolding answer_to ◌++◌
file = from_digits (bytes
    ("0203030003000a00140019002d002a0057001500"  -- header and pairs
    ++ "01000004030401020200000202010004020202030002020200"  -- s0
    ++ "0101000402030c0404060104030401020200000202010004020202030002020200010200030d02020000"  -- s1
    ++ "020900050300000702020101000202000002010000"  -- m9
    ))

-- the formula that stands in it twice, and its statements
abbrev pub repeated : Tree
repeated =
    two (Binary Times) (two (Binary Plus) (variable (Mem 0)) (variable (Mem 1))) (two (Binary Minus) (variable (Mem 3)) (variable (Mem 2)))

unfoldable pub sheet : List Statement
sheet =
    assign (Stack 0) repeated
    ∷ assign (Stack 1)
    (two (Binary Minus) (one (Unary Round) (two (Binary Divide) (one (Function1 1) repeated) (constant 2)))
    (one (Unary Floor) (variable (Mem 0))))
    ∷ assign (Mem 9) (two (Choice (Param 0)) (two (Function2 2) (variable (Stack 1)) (variable (Mem 0))) (variable (Stack 0)))
    ∷ []

-- its list, six words an operation
unfoldable pub words : List ℕ
words =
    12 ∷ 2 ∷ 0 ∷ 0 ∷ 0 ∷ 0  -- need 2
    ∷ 2 ∷ 0 ∷ 0 ∷ 0 ∷ 0 ∷ 131072  -- load r0 m0
    ∷ 9 ∷ 1 ∷ 1 ∷ 0 ∷ 0 ∷ 131073  -- loadmath plus r1 r0 m1
    ∷ 3 ∷ 0 ∷ 0 ∷ 1 ∷ 0 ∷ 65549  -- save r1 s13
    ∷ 12 ∷ 2 ∷ 0 ∷ 0 ∷ 0 ∷ 0  -- need 2
    ∷ 2 ∷ 0 ∷ 0 ∷ 0 ∷ 0 ∷ 131075  -- load r0 m3
    ∷ 9 ∷ 2 ∷ 1 ∷ 0 ∷ 0 ∷ 131074  -- loadmath minus r1 r0 m2
    ∷ 3 ∷ 0 ∷ 0 ∷ 1 ∷ 0 ∷ 65552  -- save r1 s16
    ∷ 12 ∷ 2 ∷ 0 ∷ 0 ∷ 0 ∷ 0  -- need 2
    ∷ 2 ∷ 0 ∷ 0 ∷ 0 ∷ 0 ∷ 65549  -- load r0 s13
    ∷ 9 ∷ 3 ∷ 1 ∷ 0 ∷ 0 ∷ 65552  -- loadmath times r1 r0 s16
    ∷ 3 ∷ 0 ∷ 0 ∷ 1 ∷ 0 ∷ 65546  -- save r1 s10
    ∷ 12 ∷ 1 ∷ 0 ∷ 0 ∷ 0 ∷ 0  -- need 1
    ∷ 2 ∷ 0 ∷ 0 ∷ 0 ∷ 0 ∷ 65546  -- load r0 s10
    ∷ 3 ∷ 0 ∷ 0 ∷ 0 ∷ 0 ∷ 65536  -- save r0 s0
    ∷ 12 ∷ 1 ∷ 0 ∷ 0 ∷ 0 ∷ 0  -- need 1
    ∷ 2 ∷ 0 ∷ 0 ∷ 0 ∷ 0 ∷ 65546  -- load r0 s10
    ∷ 11 ∷ 1 ∷ 0 ∷ 1 ∷ 0 ∷ 0  -- call f1 1
    ∷ 3 ∷ 0 ∷ 0 ∷ 255 ∷ 0 ∷ 65555  -- save v s19
    ∷ 12 ∷ 2 ∷ 0 ∷ 0 ∷ 0 ∷ 0  -- need 2
    ∷ 2 ∷ 0 ∷ 0 ∷ 0 ∷ 0 ∷ 65555  -- load r0 s19
    ∷ 10 ∷ 4 ∷ 1 ∷ 0 ∷ 0 ∷ 2  -- constmath divide r1 r0 c2
    ∷ 6 ∷ 12 ∷ 1 ∷ 1 ∷ 0 ∷ 0  -- uni round r1 r1
    ∷ 2 ∷ 0 ∷ 0 ∷ 0 ∷ 0 ∷ 131072  -- load r0 m0
    ∷ 6 ∷ 13 ∷ 0 ∷ 0 ∷ 0 ∷ 0  -- uni floor r0 r0
    ∷ 7 ∷ 2 ∷ 1 ∷ 1 ∷ 0 ∷ 0  -- bi minus r1 r1 r0
    ∷ 3 ∷ 0 ∷ 0 ∷ 1 ∷ 0 ∷ 65537  -- save r1 s1
    ∷ 12 ∷ 2 ∷ 0 ∷ 0 ∷ 0 ∷ 0  -- need 2
    ∷ 2 ∷ 0 ∷ 1 ∷ 0 ∷ 0 ∷ 65537  -- load r1 s1
    ∷ 2 ∷ 0 ∷ 0 ∷ 0 ∷ 0 ∷ 131072  -- load r0 m0
    ∷ 5 ∷ 0 ∷ 1 ∷ 0 ∷ 0 ∷ 0  -- swap r1 r0
    ∷ 11 ∷ 2 ∷ 0 ∷ 2 ∷ 0 ∷ 0  -- call f2 2
    ∷ 3 ∷ 0 ∷ 0 ∷ 255 ∷ 0 ∷ 65558  -- save v s22
    ∷ 12 ∷ 2 ∷ 0 ∷ 0 ∷ 0 ∷ 0  -- need 2
    ∷ 2 ∷ 0 ∷ 1 ∷ 0 ∷ 0 ∷ 65558  -- load r1 s22
    ∷ 2 ∷ 0 ∷ 0 ∷ 0 ∷ 0 ∷ 65536  -- load r0 s0
    ∷ 8 ∷ 0 ∷ 1 ∷ 1 ∷ 0 ∷ 196608  -- ifelse r1 r1 r0 p0
    ∷ 3 ∷ 0 ∷ 0 ∷ 1 ∷ 0 ∷ 131081  -- save r1 m9
    ∷ []

-- what the theorem asks of the sheet, and its list
pub witness_read : sheet_of file ≡ got sheet 26
unfolding file sheet
witness_read = refl

pub witness_accepted : (answer file work_words work_words).number ≡ 0
unfolding file
witness_accepted = refl

pub witness_list : list_of (answer file work_words work_words) ≡ words
unfolding file words
witness_list = refl

pub witness_orderly : orderly [] sheet ≡ true
unfolding answer_to sheet orderly is_in reads
witness_orderly = refl

-- are all numbers of a list bytes
unfoldable pub all_bytes : List ℕ → Bool
all_bytes [] = true
all_bytes (b ∷ bs) = ltb b 256 && all_bytes bs

bytes_are : (s : List ℕ) → all_bytes s ≡ true → Bytes s
unfolding Bytes all_bytes
bytes_are [] h = tt
bytes_are (b ∷ bs) h =
    let (small, others) = and_both (ltb b 256) (all_bytes bs) h in
    (ltb-true b 256 small, bytes_are bs others)

pub witness_bytes : Bytes file
unfolding file all_bytes
witness_bytes = bytes_are file refl

-- a start whose places have different numbers, and calls that leave another number in each register each time
abbrev pub start : State ℕ
start = record {
  memory = λ p. 4 * index_of p + kind_of p;
  registers = λ r. 500 + r;
  spoils = λ n r. 10000 + 1000 * n + r;
}

-- what words leave in places when they run from the start
unfoldable pub left : List ℕ → List Loc → List ℕ
unfolding answer_to words_op words_list run run_ops operate update put unary_value binary_value
left ws ps = map (run house ws start).memory ps

-- run from there, the list leaves in the assigned places what the sheet leaves, and not what they had
pub witness-runs :
    (map (run house words start).memory (assigned sheet) ≡ 32 ∷ 203 ∷ 2611 ∷ [])
    × (map (perform_all house sheet start.memory) (assigned sheet) ≡ 32 ∷ 203 ∷ 2611 ∷ [])
    × (map start.memory (assigned sheet) ≡ 1 ∷ 5 ∷ 38 ∷ [])
unfolding left words sheet assigned perform_all perform value
witness-runs = (refl, refl, refl)

-- the same from the law, which finds all that it asks for, and demand 3 whole of the words
pub witness_by_law : (p : Loc) → is_in (assigned sheet) p ≡ true →
    (run house words start).memory p ≡ perform_all house sheet start.memory p
witness_by_law p h =
    rw witness_list at
    ((whole_list_agrees file work_words work_words witness_bytes witness_accepted sheet 26 witness_read witness_orderly
    house seven_commute start p).0 h)

pub witness_demand : RunsAsSheet file words (answer file work_words work_words).temps
unfolding AcceptedRuns
witness_demand = rw witness_list at (accepted_runs file work_words work_words witness_bytes witness_accepted)

-- the sources of the minus exchanged, or m1 loaded for m0: other numbers than 203 and 32
pub wrong-list-differs :
    (left (set (set words 153 0) 154 1) (Stack 1 ∷ []) ≡ 0 ∷ []) × (left (set words 11 131073) (Stack 0 ∷ []) ≡ 48 ∷ [])
unfolding left words
wrong-list-differs = (refl, refl)

-- m0 in register 1, which two calls spoil: saved after the first in m2, after the second in m3
unfoldable pub kept : List Op
kept = op_load 1 (Mem 0) ∷ op_load 0 (Mem 1) ∷ op_call 0 1 ∷ op_save 1 (Mem 2) ∷ op_call 0 1 ∷ op_save 1 (Mem 3) ∷ []

pub spoils_are_felt : left (list_words kept) (Mem 0 ∷ Mem 2 ∷ Mem 3 ∷ []) ≡ 2 ∷ 10001 ∷ 11001 ∷ []
unfolding left kept
spoils_are_felt = refl

-- a call may write a register above the first
pub call_writes : EachOp (WritesOnly (Below 1)) (op_call 7 1 ∷ []) → ⊥
unfolding EachOp
call_writes h =
    let any : (r : ℕ) → Below 1 r = h.0 in
    ⊎_elim (λ l. omega arith) (⊎_elim (λ e. omega arith) (λ e. omega arith)) (any 1)

-- no list may begin without a record, write the register that a record's number is, or need more than the scratch count
pub unrecorded_refused : NeedsHold 4 0 (op_load 0 (Mem 0) ∷ []) → ⊥
unfolding NeedsHold answer_to
unrecorded_refused h = omega (arith, h.0)

pub wider_refused : NeedsHold 4 0 (op_need 1 ∷ op_load 1 (Mem 0) ∷ []) → ⊥
unfolding NeedsHold answer_to
wider_refused h = ⊎_elim (λ l. omega arith) (⊎_elim (λ e. omega arith) (λ e. omega arith)) (h.3.2 refl)

pub unmet_refused : NeedsHold 4 0 (op_need 5 ∷ []) → ⊥
unfolding NeedsHold answer_to
unmet_refused h = omega (arith, h.1)

-- a place that is read and later assigned, one that its own statement reads, one that is assigned twice
pub disorder-seen :
    (orderly [] (assign (Stack 0) (variable (Mem 0)) ∷ assign (Mem 0) (constant 0) ∷ []) ≡ false)
    × (orderly [] (assign (Mem 0) (variable (Mem 0)) ∷ []) ≡ false)
    × (orderly [] (assign (Mem 0) (constant 0) ∷ assign (Mem 0) (constant 1) ∷ []) ≡ false)
unfolding answer_to orderly is_in reads
disorder-seen = (refl, refl, refl)
