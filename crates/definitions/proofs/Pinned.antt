-- Sheets and their answers, every word as a number: every kind, Temp and Ret, every register field, every kind of place, unused
-- words zero, powers, and each refusal. The numbers are the second implementation's (model/pinned.py), and held to it by tests/vectors.
use Prim.Native.Nat.{ℕ}
use Prim.Native.String.{String}
use mathlib.Core.Path.{◌≡◌, refl}
use mathlib.Core.Bool.{Bool, true, ◌&&◌}
use mathlib.Core.List.{List, [], ◌∷◌}
use lib.Dec.{eqb}
use Rattle.definitions.specs.Answer.{Answer}
use Rattle.definitions.proofs.Computing.{same_numbers, answer_to, ◌++◌, all_of}

-- is an answer the one of these numbers and this output
abbrev pub is_answer : Answer → (number ops temps : ℕ) → (output : List ℕ) → Bool
is_answer a number ops temps output =
    eqb a.number number && eqb a.ops ops && eqb a.temps temps && same_numbers a.output output

-- is a sheet, with so many words of work and output lent, answered with these
unfoldable pub answers : (sheet : String) (work room number ops temps : ℕ) → (output : List ℕ) → Bool
unfolding answer_to same_numbers
answers sheet work room number ops temps output = is_answer (answer_to sheet work room) number ops temps output

abbrev pub table : List Bool
table =
    -- a choice, its condition on every kind of place, the larger side on either
    answers ("0400010003000a0014000e002200150037001500010000050301020102010202000002ffff05010100020307000401020200"
    ++ "0002020100020400050209000401020200000202010002010300")
    16384 117 0 19 0
    (12 ∷ 2 ∷ 0 ∷ 0 ∷ 0 ∷ 0 ∷  -- need 2
    1 ∷ 0 ∷ 1 ∷ 0 ∷ 0 ∷ 258 ∷  -- const r1 c258
    2 ∷ 0 ∷ 0 ∷ 0 ∷ 0 ∷ 131072 ∷  -- load r0 m0
    8 ∷ 0 ∷ 1 ∷ 1 ∷ 0 ∷ 197121 ∷  -- ifelse r1 r1 r0 p513
    3 ∷ 0 ∷ 0 ∷ 1 ∷ 0 ∷ 65536 ∷  -- save r1 s0
    12 ∷ 2 ∷ 0 ∷ 0 ∷ 0 ∷ 0 ∷  -- need 2
    2 ∷ 0 ∷ 1 ∷ 0 ∷ 0 ∷ 131072 ∷  -- load r1 m0
    2 ∷ 0 ∷ 0 ∷ 0 ∷ 0 ∷ 131073 ∷  -- load r0 m1
    7 ∷ 1 ∷ 1 ∷ 1 ∷ 0 ∷ 0 ∷  -- bi plus r1 r1 r0
    2 ∷ 0 ∷ 0 ∷ 0 ∷ 0 ∷ 196615 ∷  -- load r0 p7
    8 ∷ 0 ∷ 1 ∷ 0 ∷ 1 ∷ 65537 ∷  -- ifelse r1 r0 r1 s1
    3 ∷ 0 ∷ 0 ∷ 1 ∷ 0 ∷ 196607 ∷  -- save r1 m65535
    12 ∷ 2 ∷ 0 ∷ 0 ∷ 0 ∷ 0 ∷  -- need 2
    2 ∷ 0 ∷ 1 ∷ 0 ∷ 0 ∷ 131072 ∷  -- load r1 m0
    2 ∷ 0 ∷ 0 ∷ 0 ∷ 0 ∷ 131073 ∷  -- load r0 m1
    7 ∷ 1 ∷ 1 ∷ 1 ∷ 0 ∷ 0 ∷  -- bi plus r1 r1 r0
    2 ∷ 0 ∷ 0 ∷ 0 ∷ 0 ∷ 65539 ∷  -- load r0 s3
    8 ∷ 0 ∷ 1 ∷ 1 ∷ 0 ∷ 131081 ∷  -- ifelse r1 r1 r0 m9
    3 ∷ 0 ∷ 0 ∷ 1 ∷ 0 ∷ 131076 ∷  -- save r1 m4
    0 ∷ 0 ∷ 0 ∷ [])
    -- square, cube, frac and x xor x, at register 1
    ∷ answers ("0400010003000a00140014002800110039000f000201000402030a0401020200000202010001090002020003100309040102"
    ++ "02000002020100020300030504010202000002020100")
    16384 141 0 23 0
    (12 ∷ 2 ∷ 0 ∷ 0 ∷ 0 ∷ 0 ∷  -- need 2
    2 ∷ 0 ∷ 1 ∷ 0 ∷ 0 ∷ 131072 ∷  -- load r1 m0
    2 ∷ 0 ∷ 0 ∷ 0 ∷ 0 ∷ 131073 ∷  -- load r0 m1
    7 ∷ 1 ∷ 1 ∷ 1 ∷ 0 ∷ 0 ∷  -- bi plus r1 r1 r0
    7 ∷ 3 ∷ 254 ∷ 1 ∷ 1 ∷ 0 ∷  -- bi times t r1 r1
    7 ∷ 3 ∷ 1 ∷ 1 ∷ 254 ∷ 0 ∷  -- bi times r1 r1 t
    1 ∷ 0 ∷ 0 ∷ 0 ∷ 0 ∷ 9 ∷  -- const r0 c9
    7 ∷ 2 ∷ 1 ∷ 1 ∷ 0 ∷ 0 ∷  -- bi minus r1 r1 r0
    3 ∷ 0 ∷ 0 ∷ 1 ∷ 0 ∷ 131073 ∷  -- save r1 m1
    12 ∷ 2 ∷ 0 ∷ 0 ∷ 0 ∷ 0 ∷  -- need 2
    2 ∷ 0 ∷ 1 ∷ 0 ∷ 0 ∷ 131072 ∷  -- load r1 m0
    2 ∷ 0 ∷ 0 ∷ 0 ∷ 0 ∷ 131073 ∷  -- load r0 m1
    7 ∷ 1 ∷ 1 ∷ 1 ∷ 0 ∷ 0 ∷  -- bi plus r1 r1 r0
    7 ∷ 3 ∷ 1 ∷ 1 ∷ 1 ∷ 0 ∷  -- bi times r1 r1 r1
    6 ∷ 13 ∷ 254 ∷ 1 ∷ 0 ∷ 0 ∷  -- uni floor t r1
    7 ∷ 2 ∷ 1 ∷ 1 ∷ 254 ∷ 0 ∷  -- bi minus r1 r1 t
    3 ∷ 0 ∷ 0 ∷ 1 ∷ 0 ∷ 131074 ∷  -- save r1 m2
    12 ∷ 2 ∷ 0 ∷ 0 ∷ 0 ∷ 0 ∷  -- need 2
    2 ∷ 0 ∷ 1 ∷ 0 ∷ 0 ∷ 131072 ∷  -- load r1 m0
    2 ∷ 0 ∷ 0 ∷ 0 ∷ 0 ∷ 131073 ∷  -- load r0 m1
    7 ∷ 1 ∷ 1 ∷ 1 ∷ 0 ∷ 0 ∷  -- bi plus r1 r1 r0
    7 ∷ 14 ∷ 1 ∷ 1 ∷ 1 ∷ 0 ∷  -- bi xor r1 r1 r1
    3 ∷ 0 ∷ 0 ∷ 1 ∷ 0 ∷ 131075 ∷  -- save r1 m3
    0 ∷ 0 ∷ 0 ∷ [])
    -- rem through Ret, its sides in either order
    ∷ answers ("0400010002000a00100013002300120001000004050202000004010202000002020100010100040504010202000002020100"
    ++ "01ffff")
    16384 123 0 20 0
    (12 ∷ 2 ∷ 0 ∷ 0 ∷ 0 ∷ 0 ∷  -- need 2
    2 ∷ 0 ∷ 1 ∷ 0 ∷ 0 ∷ 131072 ∷  -- load r1 m0
    2 ∷ 0 ∷ 0 ∷ 0 ∷ 0 ∷ 131073 ∷  -- load r0 m1
    7 ∷ 1 ∷ 1 ∷ 1 ∷ 0 ∷ 0 ∷  -- bi plus r1 r1 r0
    2 ∷ 0 ∷ 0 ∷ 0 ∷ 0 ∷ 131072 ∷  -- load r0 m0
    7 ∷ 4 ∷ 255 ∷ 0 ∷ 1 ∷ 0 ∷  -- bi divide v r0 r1
    6 ∷ 13 ∷ 255 ∷ 255 ∷ 0 ∷ 0 ∷  -- uni floor v v
    7 ∷ 3 ∷ 255 ∷ 255 ∷ 1 ∷ 0 ∷  -- bi times v v r1
    7 ∷ 2 ∷ 1 ∷ 0 ∷ 255 ∷ 0 ∷  -- bi minus r1 r0 v
    3 ∷ 0 ∷ 0 ∷ 1 ∷ 0 ∷ 65536 ∷  -- save r1 s0
    12 ∷ 2 ∷ 0 ∷ 0 ∷ 0 ∷ 0 ∷  -- need 2
    2 ∷ 0 ∷ 1 ∷ 0 ∷ 0 ∷ 131072 ∷  -- load r1 m0
    2 ∷ 0 ∷ 0 ∷ 0 ∷ 0 ∷ 131073 ∷  -- load r0 m1
    7 ∷ 1 ∷ 1 ∷ 1 ∷ 0 ∷ 0 ∷  -- bi plus r1 r1 r0
    1 ∷ 0 ∷ 0 ∷ 0 ∷ 0 ∷ 65535 ∷  -- const r0 c65535
    7 ∷ 4 ∷ 255 ∷ 1 ∷ 0 ∷ 0 ∷  -- bi divide v r1 r0
    6 ∷ 13 ∷ 255 ∷ 255 ∷ 0 ∷ 0 ∷  -- uni floor v v
    7 ∷ 3 ∷ 255 ∷ 255 ∷ 0 ∷ 0 ∷  -- bi times v v r0
    7 ∷ 2 ∷ 1 ∷ 1 ∷ 255 ∷ 0 ∷  -- bi minus r1 r1 v
    3 ∷ 0 ∷ 0 ∷ 1 ∷ 0 ∷ 65537 ∷  -- save r1 s1
    0 ∷ 0 ∷ 0 ∷ [])
    -- fused loads and constants, on either side
    ∷ answers ("0402010002000a00100012002200180001000004030402020202010103000203020001010004010201050004040401020200"
    ++ "0002020100010400")
    16384 69 0 11 0
    (12 ∷ 2 ∷ 0 ∷ 0 ∷ 0 ∷ 0 ∷  -- need 2
    2 ∷ 0 ∷ 0 ∷ 0 ∷ 0 ∷ 131330 ∷  -- load r0 m258
    10 ∷ 2 ∷ 1 ∷ 0 ∷ 0 ∷ 3 ∷  -- constmath minus r1 r0 c3
    9 ∷ 3 ∷ 1 ∷ 1 ∷ 0 ∷ 196610 ∷  -- loadmath times r1 r1 p2
    3 ∷ 0 ∷ 0 ∷ 1 ∷ 0 ∷ 65536 ∷  -- save r1 s0
    12 ∷ 2 ∷ 0 ∷ 0 ∷ 0 ∷ 0 ∷  -- need 2
    2 ∷ 0 ∷ 0 ∷ 0 ∷ 0 ∷ 131072 ∷  -- load r0 m0
    9 ∷ 1 ∷ 1 ∷ 0 ∷ 0 ∷ 131073 ∷  -- loadmath plus r1 r0 m1
    10 ∷ 4 ∷ 1 ∷ 1 ∷ 0 ∷ 4 ∷  -- constmath divide r1 r1 c4
    9 ∷ 1 ∷ 1 ∷ 1 ∷ 0 ∷ 65541 ∷  -- loadmath plus r1 r1 s5
    3 ∷ 0 ∷ 0 ∷ 1 ∷ 0 ∷ 65537 ∷  -- save r1 s1
    0 ∷ 0 ∷ 0 ∷ [])
    -- calls: a move to Left, an exchange, and moves both ways
    ∷ answers ("0400030003000a001400110025000d003200250001000006ff03010401020200000202010001010007070202000002020100"
    ++ "01020007010401020200000202010004030401020200000202010004010202020002020300")
    16384 231 0 38 3
    (12 ∷ 2 ∷ 0 ∷ 0 ∷ 0 ∷ 0 ∷  -- need 2
    2 ∷ 0 ∷ 1 ∷ 0 ∷ 0 ∷ 131072 ∷  -- load r1 m0
    2 ∷ 0 ∷ 0 ∷ 0 ∷ 0 ∷ 131073 ∷  -- load r0 m1
    7 ∷ 1 ∷ 1 ∷ 1 ∷ 0 ∷ 0 ∷  -- bi plus r1 r1 r0
    6 ∷ 1 ∷ 1 ∷ 1 ∷ 0 ∷ 0 ∷  -- uni neg r1 r1
    4 ∷ 0 ∷ 0 ∷ 1 ∷ 0 ∷ 0 ∷  -- move r0 r1
    11 ∷ 255 ∷ 0 ∷ 1 ∷ 0 ∷ 0 ∷  -- call f255 1
    3 ∷ 0 ∷ 0 ∷ 255 ∷ 0 ∷ 65546 ∷  -- save v s10
    12 ∷ 1 ∷ 0 ∷ 0 ∷ 0 ∷ 0 ∷  -- need 1
    2 ∷ 0 ∷ 0 ∷ 0 ∷ 0 ∷ 65546 ∷  -- load r0 s10
    3 ∷ 0 ∷ 0 ∷ 0 ∷ 0 ∷ 65536 ∷  -- save r0 s0
    12 ∷ 2 ∷ 0 ∷ 0 ∷ 0 ∷ 0 ∷  -- need 2
    2 ∷ 0 ∷ 1 ∷ 0 ∷ 0 ∷ 131072 ∷  -- load r1 m0
    2 ∷ 0 ∷ 0 ∷ 0 ∷ 0 ∷ 131073 ∷  -- load r0 m1
    5 ∷ 0 ∷ 1 ∷ 0 ∷ 0 ∷ 0 ∷  -- swap r1 r0
    11 ∷ 7 ∷ 0 ∷ 2 ∷ 0 ∷ 0 ∷  -- call f7 2
    3 ∷ 0 ∷ 0 ∷ 255 ∷ 0 ∷ 65549 ∷  -- save v s13
    12 ∷ 1 ∷ 0 ∷ 0 ∷ 0 ∷ 0 ∷  -- need 1
    2 ∷ 0 ∷ 0 ∷ 0 ∷ 0 ∷ 65549 ∷  -- load r0 s13
    3 ∷ 0 ∷ 0 ∷ 0 ∷ 0 ∷ 65537 ∷  -- save r0 s1
    12 ∷ 3 ∷ 0 ∷ 0 ∷ 0 ∷ 0 ∷  -- need 3
    2 ∷ 0 ∷ 2 ∷ 0 ∷ 0 ∷ 131072 ∷  -- load r2 m0
    2 ∷ 0 ∷ 1 ∷ 0 ∷ 0 ∷ 131073 ∷  -- load r1 m1
    7 ∷ 1 ∷ 2 ∷ 2 ∷ 1 ∷ 0 ∷  -- bi plus r2 r2 r1
    2 ∷ 0 ∷ 1 ∷ 0 ∷ 0 ∷ 131074 ∷  -- load r1 m2
    2 ∷ 0 ∷ 0 ∷ 0 ∷ 0 ∷ 131075 ∷  -- load r0 m3
    7 ∷ 1 ∷ 1 ∷ 1 ∷ 0 ∷ 0 ∷  -- bi plus r1 r1 r0
    7 ∷ 3 ∷ 2 ∷ 2 ∷ 1 ∷ 0 ∷  -- bi times r2 r2 r1
    2 ∷ 0 ∷ 1 ∷ 0 ∷ 0 ∷ 131072 ∷  -- load r1 m0
    2 ∷ 0 ∷ 0 ∷ 0 ∷ 0 ∷ 131073 ∷  -- load r0 m1
    7 ∷ 1 ∷ 1 ∷ 1 ∷ 0 ∷ 0 ∷  -- bi plus r1 r1 r0
    4 ∷ 0 ∷ 0 ∷ 1 ∷ 0 ∷ 0 ∷  -- move r0 r1
    4 ∷ 0 ∷ 1 ∷ 2 ∷ 0 ∷ 0 ∷  -- move r1 r2
    11 ∷ 1 ∷ 0 ∷ 2 ∷ 0 ∷ 0 ∷  -- call f1 2
    3 ∷ 0 ∷ 0 ∷ 255 ∷ 0 ∷ 65552 ∷  -- save v s16
    12 ∷ 1 ∷ 0 ∷ 0 ∷ 0 ∷ 0 ∷  -- need 1
    2 ∷ 0 ∷ 0 ∷ 0 ∷ 0 ∷ 65552 ∷  -- load r0 s16
    3 ∷ 0 ∷ 0 ∷ 0 ∷ 0 ∷ 65538 ∷  -- save r0 s2
    0 ∷ 0 ∷ 0 ∷ [])
    -- powers: digits above the lowest, closing squarings, x / x, the move alone, and the reciprocal last
    ∷ answers ("0400010004000a00180012002a000c0036000c0042000c00010000082c000000040102020000020201000101000800000000"
    ++ "0202000001020008010000000202000001030008fdffffff02020000")
    16384 171 0 28 0
    (12 ∷ 2 ∷ 0 ∷ 0 ∷ 0 ∷ 0 ∷  -- need 2
    2 ∷ 0 ∷ 1 ∷ 0 ∷ 0 ∷ 131072 ∷  -- load r1 m0
    2 ∷ 0 ∷ 0 ∷ 0 ∷ 0 ∷ 131073 ∷  -- load r0 m1
    7 ∷ 1 ∷ 1 ∷ 1 ∷ 0 ∷ 0 ∷  -- bi plus r1 r1 r0
    4 ∷ 0 ∷ 1 ∷ 1 ∷ 0 ∷ 0 ∷  -- move r1 r1
    7 ∷ 3 ∷ 254 ∷ 1 ∷ 1 ∷ 0 ∷  -- bi times t r1 r1
    7 ∷ 3 ∷ 1 ∷ 1 ∷ 254 ∷ 0 ∷  -- bi times r1 r1 t
    7 ∷ 3 ∷ 254 ∷ 254 ∷ 254 ∷ 0 ∷  -- bi times t t t
    7 ∷ 3 ∷ 254 ∷ 254 ∷ 254 ∷ 0 ∷  -- bi times t t t
    7 ∷ 3 ∷ 1 ∷ 1 ∷ 254 ∷ 0 ∷  -- bi times r1 r1 t
    7 ∷ 3 ∷ 1 ∷ 1 ∷ 1 ∷ 0 ∷  -- bi times r1 r1 r1
    7 ∷ 3 ∷ 1 ∷ 1 ∷ 1 ∷ 0 ∷  -- bi times r1 r1 r1
    3 ∷ 0 ∷ 0 ∷ 1 ∷ 0 ∷ 65536 ∷  -- save r1 s0
    12 ∷ 1 ∷ 0 ∷ 0 ∷ 0 ∷ 0 ∷  -- need 1
    2 ∷ 0 ∷ 0 ∷ 0 ∷ 0 ∷ 131072 ∷  -- load r0 m0
    7 ∷ 4 ∷ 0 ∷ 0 ∷ 0 ∷ 0 ∷  -- bi divide r0 r0 r0
    3 ∷ 0 ∷ 0 ∷ 0 ∷ 0 ∷ 65537 ∷  -- save r0 s1
    12 ∷ 1 ∷ 0 ∷ 0 ∷ 0 ∷ 0 ∷  -- need 1
    2 ∷ 0 ∷ 0 ∷ 0 ∷ 0 ∷ 131072 ∷  -- load r0 m0
    4 ∷ 0 ∷ 0 ∷ 0 ∷ 0 ∷ 0 ∷  -- move r0 r0
    3 ∷ 0 ∷ 0 ∷ 0 ∷ 0 ∷ 65538 ∷  -- save r0 s2
    12 ∷ 1 ∷ 0 ∷ 0 ∷ 0 ∷ 0 ∷  -- need 1
    2 ∷ 0 ∷ 0 ∷ 0 ∷ 0 ∷ 131072 ∷  -- load r0 m0
    4 ∷ 0 ∷ 0 ∷ 0 ∷ 0 ∷ 0 ∷  -- move r0 r0
    7 ∷ 3 ∷ 254 ∷ 0 ∷ 0 ∷ 0 ∷  -- bi times t r0 r0
    7 ∷ 3 ∷ 0 ∷ 0 ∷ 254 ∷ 0 ∷  -- bi times r0 r0 t
    6 ∷ 11 ∷ 0 ∷ 0 ∷ 0 ∷ 0 ∷  -- uni recip r0 r0
    3 ∷ 0 ∷ 0 ∷ 0 ∷ 0 ∷ 65539 ∷  -- save r0 s3
    0 ∷ 0 ∷ 0 ∷ [])
    -- with stable_math the reciprocal first, but last under a modulus; the lowest power
    ∷ answers ("0404010003000a00140012002600100036000c0001000008ffffffff0401020200000202010001010009feffffff02020000"
    ++ "02020100010200080000008002020000")
    16384 303 0 50 0
    (12 ∷ 2 ∷ 0 ∷ 0 ∷ 0 ∷ 0 ∷  -- need 2
    2 ∷ 0 ∷ 1 ∷ 0 ∷ 0 ∷ 131072 ∷  -- load r1 m0
    2 ∷ 0 ∷ 0 ∷ 0 ∷ 0 ∷ 131073 ∷  -- load r0 m1
    7 ∷ 1 ∷ 1 ∷ 1 ∷ 0 ∷ 0 ∷  -- bi plus r1 r1 r0
    6 ∷ 11 ∷ 1 ∷ 1 ∷ 0 ∷ 0 ∷  -- uni recip r1 r1
    4 ∷ 0 ∷ 1 ∷ 1 ∷ 0 ∷ 0 ∷  -- move r1 r1
    3 ∷ 0 ∷ 0 ∷ 1 ∷ 0 ∷ 65536 ∷  -- save r1 s0
    12 ∷ 2 ∷ 0 ∷ 0 ∷ 0 ∷ 0 ∷  -- need 2
    2 ∷ 0 ∷ 1 ∷ 0 ∷ 0 ∷ 131072 ∷  -- load r1 m0
    2 ∷ 0 ∷ 0 ∷ 0 ∷ 0 ∷ 131073 ∷  -- load r0 m1
    4 ∷ 0 ∷ 1 ∷ 1 ∷ 0 ∷ 0 ∷  -- move r1 r1
    7 ∷ 3 ∷ 1 ∷ 1 ∷ 1 ∷ 0 ∷  -- bi times r1 r1 r1
    6 ∷ 11 ∷ 1 ∷ 1 ∷ 0 ∷ 0 ∷  -- uni recip r1 r1
    3 ∷ 0 ∷ 0 ∷ 1 ∷ 0 ∷ 65537 ∷  -- save r1 s1
    12 ∷ 1 ∷ 0 ∷ 0 ∷ 0 ∷ 0 ∷  -- need 1
    2 ∷ 0 ∷ 0 ∷ 0 ∷ 0 ∷ 131072 ∷  -- load r0 m0
    6 ∷ 11 ∷ 0 ∷ 0 ∷ 0 ∷ 0 ∷  -- uni recip r0 r0
    4 ∷ 0 ∷ 0 ∷ 0 ∷ 0 ∷ 0 ∷  -- move r0 r0
    7 ∷ 3 ∷ 0 ∷ 0 ∷ 0 ∷ 0 ∷  -- bi times r0 r0 r0
    7 ∷ 3 ∷ 0 ∷ 0 ∷ 0 ∷ 0 ∷  -- bi times r0 r0 r0
    7 ∷ 3 ∷ 0 ∷ 0 ∷ 0 ∷ 0 ∷  -- bi times r0 r0 r0
    7 ∷ 3 ∷ 0 ∷ 0 ∷ 0 ∷ 0 ∷  -- bi times r0 r0 r0
    7 ∷ 3 ∷ 0 ∷ 0 ∷ 0 ∷ 0 ∷  -- bi times r0 r0 r0
    7 ∷ 3 ∷ 0 ∷ 0 ∷ 0 ∷ 0 ∷  -- bi times r0 r0 r0
    7 ∷ 3 ∷ 0 ∷ 0 ∷ 0 ∷ 0 ∷  -- bi times r0 r0 r0
    7 ∷ 3 ∷ 0 ∷ 0 ∷ 0 ∷ 0 ∷  -- bi times r0 r0 r0
    7 ∷ 3 ∷ 0 ∷ 0 ∷ 0 ∷ 0 ∷  -- bi times r0 r0 r0
    7 ∷ 3 ∷ 0 ∷ 0 ∷ 0 ∷ 0 ∷  -- bi times r0 r0 r0
    7 ∷ 3 ∷ 0 ∷ 0 ∷ 0 ∷ 0 ∷  -- bi times r0 r0 r0
    7 ∷ 3 ∷ 0 ∷ 0 ∷ 0 ∷ 0 ∷  -- bi times r0 r0 r0
    7 ∷ 3 ∷ 0 ∷ 0 ∷ 0 ∷ 0 ∷  -- bi times r0 r0 r0
    7 ∷ 3 ∷ 0 ∷ 0 ∷ 0 ∷ 0 ∷  -- bi times r0 r0 r0
    7 ∷ 3 ∷ 0 ∷ 0 ∷ 0 ∷ 0 ∷  -- bi times r0 r0 r0
    7 ∷ 3 ∷ 0 ∷ 0 ∷ 0 ∷ 0 ∷  -- bi times r0 r0 r0
    7 ∷ 3 ∷ 0 ∷ 0 ∷ 0 ∷ 0 ∷  -- bi times r0 r0 r0
    7 ∷ 3 ∷ 0 ∷ 0 ∷ 0 ∷ 0 ∷  -- bi times r0 r0 r0
    7 ∷ 3 ∷ 0 ∷ 0 ∷ 0 ∷ 0 ∷  -- bi times r0 r0 r0
    7 ∷ 3 ∷ 0 ∷ 0 ∷ 0 ∷ 0 ∷  -- bi times r0 r0 r0
    7 ∷ 3 ∷ 0 ∷ 0 ∷ 0 ∷ 0 ∷  -- bi times r0 r0 r0
    7 ∷ 3 ∷ 0 ∷ 0 ∷ 0 ∷ 0 ∷  -- bi times r0 r0 r0
    7 ∷ 3 ∷ 0 ∷ 0 ∷ 0 ∷ 0 ∷  -- bi times r0 r0 r0
    7 ∷ 3 ∷ 0 ∷ 0 ∷ 0 ∷ 0 ∷  -- bi times r0 r0 r0
    7 ∷ 3 ∷ 0 ∷ 0 ∷ 0 ∷ 0 ∷  -- bi times r0 r0 r0
    7 ∷ 3 ∷ 0 ∷ 0 ∷ 0 ∷ 0 ∷  -- bi times r0 r0 r0
    7 ∷ 3 ∷ 0 ∷ 0 ∷ 0 ∷ 0 ∷  -- bi times r0 r0 r0
    7 ∷ 3 ∷ 0 ∷ 0 ∷ 0 ∷ 0 ∷  -- bi times r0 r0 r0
    7 ∷ 3 ∷ 0 ∷ 0 ∷ 0 ∷ 0 ∷  -- bi times r0 r0 r0
    7 ∷ 3 ∷ 0 ∷ 0 ∷ 0 ∷ 0 ∷  -- bi times r0 r0 r0
    7 ∷ 3 ∷ 0 ∷ 0 ∷ 0 ∷ 0 ∷  -- bi times r0 r0 r0
    3 ∷ 0 ∷ 0 ∷ 0 ∷ 0 ∷ 65538 ∷  -- save r0 s2
    0 ∷ 0 ∷ 0 ∷ [])
    -- under a modulus a rem after every product; a wide modulus is stored, and both sides where both are wide
    ∷ answers ("0200010003000a00140016002a00160040001c000100000906000000040102020000020201000202020001010009feffffff"
    ++ "020200000401020200000202010001020009000000000401020200000202010004010202020002020300")
    16384 297 0 49 3
    (12 ∷ 2 ∷ 0 ∷ 0 ∷ 0 ∷ 0 ∷  -- need 2
    2 ∷ 0 ∷ 1 ∷ 0 ∷ 0 ∷ 131072 ∷  -- load r1 m0
    2 ∷ 0 ∷ 0 ∷ 0 ∷ 0 ∷ 131073 ∷  -- load r0 m1
    7 ∷ 1 ∷ 1 ∷ 1 ∷ 0 ∷ 0 ∷  -- bi plus r1 r1 r0
    2 ∷ 0 ∷ 0 ∷ 0 ∷ 0 ∷ 131074 ∷  -- load r0 m2
    4 ∷ 0 ∷ 1 ∷ 1 ∷ 0 ∷ 0 ∷  -- move r1 r1
    7 ∷ 3 ∷ 254 ∷ 1 ∷ 1 ∷ 0 ∷  -- bi times t r1 r1
    7 ∷ 4 ∷ 255 ∷ 254 ∷ 0 ∷ 0 ∷  -- bi divide v t r0
    6 ∷ 13 ∷ 255 ∷ 255 ∷ 0 ∷ 0 ∷  -- uni floor v v
    7 ∷ 3 ∷ 255 ∷ 255 ∷ 0 ∷ 0 ∷  -- bi times v v r0
    7 ∷ 2 ∷ 254 ∷ 254 ∷ 255 ∷ 0 ∷  -- bi minus t t v
    7 ∷ 3 ∷ 1 ∷ 1 ∷ 254 ∷ 0 ∷  -- bi times r1 r1 t
    7 ∷ 4 ∷ 255 ∷ 1 ∷ 0 ∷ 0 ∷  -- bi divide v r1 r0
    6 ∷ 13 ∷ 255 ∷ 255 ∷ 0 ∷ 0 ∷  -- uni floor v v
    7 ∷ 3 ∷ 255 ∷ 255 ∷ 0 ∷ 0 ∷  -- bi times v v r0
    7 ∷ 2 ∷ 1 ∷ 1 ∷ 255 ∷ 0 ∷  -- bi minus r1 r1 v
    7 ∷ 3 ∷ 1 ∷ 1 ∷ 1 ∷ 0 ∷  -- bi times r1 r1 r1
    7 ∷ 4 ∷ 255 ∷ 1 ∷ 0 ∷ 0 ∷  -- bi divide v r1 r0
    6 ∷ 13 ∷ 255 ∷ 255 ∷ 0 ∷ 0 ∷  -- uni floor v v
    7 ∷ 3 ∷ 255 ∷ 255 ∷ 0 ∷ 0 ∷  -- bi times v v r0
    7 ∷ 2 ∷ 1 ∷ 1 ∷ 255 ∷ 0 ∷  -- bi minus r1 r1 v
    3 ∷ 0 ∷ 0 ∷ 1 ∷ 0 ∷ 65536 ∷  -- save r1 s0
    12 ∷ 2 ∷ 0 ∷ 0 ∷ 0 ∷ 0 ∷  -- need 2
    2 ∷ 0 ∷ 1 ∷ 0 ∷ 0 ∷ 131072 ∷  -- load r1 m0
    2 ∷ 0 ∷ 0 ∷ 0 ∷ 0 ∷ 131073 ∷  -- load r0 m1
    7 ∷ 1 ∷ 1 ∷ 1 ∷ 0 ∷ 0 ∷  -- bi plus r1 r1 r0
    3 ∷ 0 ∷ 0 ∷ 1 ∷ 0 ∷ 65546 ∷  -- save r1 s10
    12 ∷ 2 ∷ 0 ∷ 0 ∷ 0 ∷ 0 ∷  -- need 2
    2 ∷ 0 ∷ 1 ∷ 0 ∷ 0 ∷ 131072 ∷  -- load r1 m0
    2 ∷ 0 ∷ 0 ∷ 0 ∷ 0 ∷ 65546 ∷  -- load r0 s10
    4 ∷ 0 ∷ 1 ∷ 1 ∷ 0 ∷ 0 ∷  -- move r1 r1
    7 ∷ 3 ∷ 1 ∷ 1 ∷ 1 ∷ 0 ∷  -- bi times r1 r1 r1
    6 ∷ 11 ∷ 1 ∷ 1 ∷ 0 ∷ 0 ∷  -- uni recip r1 r1
    3 ∷ 0 ∷ 0 ∷ 1 ∷ 0 ∷ 65537 ∷  -- save r1 s1
    12 ∷ 2 ∷ 0 ∷ 0 ∷ 0 ∷ 0 ∷  -- need 2
    2 ∷ 0 ∷ 1 ∷ 0 ∷ 0 ∷ 131072 ∷  -- load r1 m0
    2 ∷ 0 ∷ 0 ∷ 0 ∷ 0 ∷ 131073 ∷  -- load r0 m1
    7 ∷ 1 ∷ 1 ∷ 1 ∷ 0 ∷ 0 ∷  -- bi plus r1 r1 r0
    3 ∷ 0 ∷ 0 ∷ 1 ∷ 0 ∷ 65547 ∷  -- save r1 s11
    12 ∷ 2 ∷ 0 ∷ 0 ∷ 0 ∷ 0 ∷  -- need 2
    2 ∷ 0 ∷ 1 ∷ 0 ∷ 0 ∷ 131074 ∷  -- load r1 m2
    2 ∷ 0 ∷ 0 ∷ 0 ∷ 0 ∷ 131075 ∷  -- load r0 m3
    7 ∷ 1 ∷ 1 ∷ 1 ∷ 0 ∷ 0 ∷  -- bi plus r1 r1 r0
    3 ∷ 0 ∷ 0 ∷ 1 ∷ 0 ∷ 65548 ∷  -- save r1 s12
    12 ∷ 2 ∷ 0 ∷ 0 ∷ 0 ∷ 0 ∷  -- need 2
    2 ∷ 0 ∷ 1 ∷ 0 ∷ 0 ∷ 65547 ∷  -- load r1 s11
    2 ∷ 0 ∷ 0 ∷ 0 ∷ 0 ∷ 65548 ∷  -- load r0 s12
    7 ∷ 4 ∷ 1 ∷ 1 ∷ 1 ∷ 0 ∷  -- bi divide r1 r1 r1
    3 ∷ 0 ∷ 0 ∷ 1 ∷ 0 ∷ 65538 ∷  -- save r1 s2
    0 ∷ 0 ∷ 0 ∷ [])
    -- 1: a word of work too few
    ∷ answers "0400010001000a000c00070001000002020000"
    16383 3 1 0 0
    (0 ∷ 0 ∷ 0 ∷ [])
    -- 2: seven bytes
    ∷ answers "0400010000000a"
    16384 3 2 0 0
    (0 ∷ 0 ∷ 0 ∷ [])
    -- 3: one scratch register
    ∷ answers "0100010001000a000c00070001000002020000"
    16384 3 3 0 0
    (0 ∷ 0 ∷ 0 ∷ [])
    -- 4: the pair is cut off
    ∷ answers "0400010001000a000c0007"
    16384 3 4 0 0
    (0 ∷ 0 ∷ 0 ∷ [])
    -- 5: a byte left over
    ∷ answers "0400010001000a000c0008000100000202000000"
    16384 3 5 0 0
    (0 ∷ 0 ∷ 0 ∷ [])
    -- 6: a formula of 65 levels
    ∷ answers ("0400010001000a000c0087000100000301030103010301030103010301030103010301030103010301030103010301030103"
    ++ "0103010301030103010301030103010301030103010301030103010301030103010301030103010301030103010301030103"
    ++ "0103010301030103010301030103010301030103010301030103010301030103010301030103010301030102020000")
    16384 3 6 0 0
    (0 ∷ 0 ∷ 0 ∷ [])
    -- 7: a temporary as destination
    ∷ answers "0400010001000a000c000700010a0002020000"
    16384 3 7 0 0
    (0 ∷ 0 ∷ 0 ∷ [])
    -- 8: two wide arguments
    ∷ answers "0200010001000a000c00190001000007070401020200000202010004010202020002020300"
    16384 3 8 0 0
    (0 ∷ 0 ∷ 0 ∷ [])
    -- 9: temporaries past the last index
    ∷ answers "020001000100ffff0c00190001000004030401020200000202010004010202020002020300"
    16384 3 9 0 0
    (0 ∷ 0 ∷ 0 ∷ [])
    -- 10: a word of output too few
    ∷ answers "0400010001000a000c00070001000002020000"
    16384 17 10 0 0
    (0 ∷ 0 ∷ 0 ∷ 0 ∷ 0 ∷ 0 ∷ 0 ∷ 0 ∷ 0 ∷ 0 ∷ 0 ∷ 0 ∷ 0 ∷ 0 ∷ 0 ∷ 0 ∷ 0 ∷ [])
    -- 11: the lowest power under a modulus
    ∷ answers "0400010001000a000c00100001000009000000800202000002020100"
    16384 3 11 0 0
    (0 ∷ 0 ∷ 0 ∷ [])
    ∷ []

pub words_are_pinned : all_of table ≡ true
unfolding all_of answers ◌++◌
words_are_pinned = refl
