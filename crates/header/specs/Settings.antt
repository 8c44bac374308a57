-- A sheet's header as the code has it: document 01, 'The sheet and the list'; T-02.
use Rattle.std.specs.Prelude.{List, ℕ, ◌+◌, ◌*◌, ◌<◌, ◌≤◌}
use Rattle.limits.specs.Limits.{index_end}
use Rattle.symbol.specs.declared.Loc.{Loc}
use Rattle.symbol.specs.declared.Loc.TheVariants.{Stack}
use Rattle.definitions.specs.Sheet.{scratch_count, sharing, fused, stable, step, first_temporary, statement_count}
use Rattle.header.specs.declared.Header.{Header}

-- the header of a file
abbrev pub header_of : (file : List ℕ) → Header
header_of file =
    record {
      scratch = scratch_count file;
      sharing = sharing file;
      fused = fused file;
      stable = stable file;
      step = step file;
      first = first_temporary file;
      count = statement_count file;
    }

-- a scratch count that passes check 3
abbrev pub InScratch : Header → Type 0
InScratch h = (2 ≤ h.scratch) × (h.scratch ≤ 32)

-- 'Temporary n is stack index first + step × n'
abbrev pub temporary_of : Header → ℕ → Loc
temporary_of h n = Stack (h.first + h.step * n)

-- an index has 16 bits
abbrev pub Indexed : Header → ℕ → Type 0
Indexed h n = h.first + h.step * n < index_end
