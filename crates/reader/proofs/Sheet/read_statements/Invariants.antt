-- What the statements from k on will be found to be, all are: rows past those of the sheet stay.
use Rattle.std.proofs.Common.{ℕ, List, ◌≡◌, ◌+◌, ◌*◌, ◌-◌, ◌++◌, length, drop, Result}
use Rattle.refusal.specs.declared.Refusal.{Refusal}
use Rattle.header.specs.declared.Header.{Header}
use Rattle.header.specs.Settings.{header_of}
use Rattle.definitions.specs.Sheet.{pairs_from, pairs, statements_at}
use Rattle.statement.specs.declared.Row.{Row}
use Rattle.reader.specs.Reads.{StatementsRead}
use Rattle.reader.proofs.Sheet.read_statements.Given as goal

abbrev pub invariant-loop-k : goal.invariant-loop-k
invariant-loop-k l =
    let file = l.self.file.now in
    let left = statements_at file l.n (pairs_from file (8 + 4 * l.k) (l.self.header.count - l.k)) in
    let all = statements_at file 0 (pairs file) in
    record {
      given : length l.row-items ≡ l.self.header.count;
      on : (r : Result (Header × ℕ) Refusal) (ws' : List ℕ) (rows' : List Row)
          → StatementsRead (header_of file) left l.n l.k l.ws (l.row-items ++ drop l.self.header.count l.fn.rows) r ws' rows'
          → StatementsRead (header_of file) all 0 0 l.initial.ws l.fn.rows r ws' rows';
    }
