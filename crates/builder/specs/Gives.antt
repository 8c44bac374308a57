-- The answer in code, before the words are cleared.
use Rattle.std.specs.Prelude.{◌≡◌, ℕ, ◌*◌, ◌≤◌, List, [], Ok, Err, length}
use Rattle.std.proofs.lemmas.List.Edits.{sets}
use Rattle.definitions.specs.Statement.{Statement}
use Rattle.definitions.specs.Sheet.{Read, got, bad, fused}
use Rattle.definitions.specs.Operations.{Op, list_words}
use Rattle.definitions.specs.Emit.{emit_all}
use Rattle.definitions.specs.Answer.{Answer as Defined, refusal, acceptance, compiled, answer}
use Rattle.refusal.specs.Numbers.{number_of as refusal_number}
use Rattle.builder.specs.Compiled.{Answered}

-- the operations of trimmed statements
abbrev pub operations_of : (file : List ℕ) → Read (List Statement) → List Op
operations_of file (got ss temps) = emit_all (fused file) ss
operations_of file (bad k) = []

-- the answer a is given, and its list is in the output
abbrev pub Gives : (a : Defined) (list : List Op) (out out' : List ℕ) → Answered → Type 0
Gives a list out out' (Err e) = a ≡ refusal (refusal_number e) (length out)
Gives a list out out' (Ok c) =
    (a ≡ acceptance list c.temps (length out)) × (c.ops ≡ length list) × (6 * c.ops ≤ length out)
    × (out' ≡ sets out 0 (list_words list))

-- the answer to a file
pub record Compiles (file : List ℕ) (works : ℕ) (out out' : List ℕ) (r : Answered) : Type 0 where
  pub gives : Gives (answer file works (length out)) (operations_of file (compiled file)) out out' r
