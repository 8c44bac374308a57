-- The numbers of refusals, checks 1 to 10 of document 01, 'The sheet and the list', and 11 of T-02.
use Rattle.std.specs.Prelude.{◌≡◌, ℕ, Result, Ok, Err}
use Rattle.refusal.specs.declared.Refusal.{Refusal}
use Rattle.refusal.specs.declared.Refusal.TheVariants.{Work, File, Header, Pairs, Bytes, Size, Place, Call, Temporaries, Output, Power}

-- the number of a refusal
abbrev pub number_of : Refusal → ℕ
number_of Work = 1
number_of File = 2
number_of Header = 3
number_of Pairs = 4
number_of Bytes = 5
number_of Size = 6
number_of Place = 7
number_of Call = 8
number_of Temporaries = 9
number_of Output = 10
number_of Power = 11

-- a result that is the refusal with this number
abbrev pub IsRefused : {A : Type 0} → Result A Refusal → ℕ → Type 0
IsRefused (Ok a) k = ⊥
IsRefused (Err r) k = number_of r ≡ k
