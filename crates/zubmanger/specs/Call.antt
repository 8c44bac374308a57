-- What the call for C answers and leaves: document 01, 'What a contract says'.
use Rattle.std.specs.Prelude.{◌≡◌, ℕ, List, length, replicate}
use Rattle.definitions.specs.Sheet.{Bytes}
use Rattle.definitions.specs.Answer.{answer}
use Rattle.builder.specs.Compiled.{Answered, number_of, ops_of, temps_of}
use Rattle.zubmanger.specs.declared.Numbers.{Numbers}

-- 'number, N, T and every word of output and work from the file and the two lengths'
pub record Called (file work work' out out' : List ℕ) (r : Numbers) : Type 0 where
  pub bytes : Bytes file
  pub number : r.number ≡ (answer file (length work) (length out)).number
  pub ops : r.ops ≡ (answer file (length work) (length out)).ops
  pub temps : r.temps ≡ (answer file (length work) (length out)).temps
  pub output : out' ≡ (answer file (length work) (length out)).output
  pub cleared : work' ≡ replicate (length work) 0

-- the numbers of an answer
pub record HasNumbers (r : Answered) (n : Numbers) : Type 0 where
  pub number : n.number ≡ number_of r
  pub ops : n.ops ≡ ops_of r
  pub temps : n.temps ≡ temps_of r
