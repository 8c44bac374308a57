-- At a turn: pair k, whose start and end were read.
use Rattle.std.proofs.Common.{le-leb}
use Rattle.std.proofs.lemmas.Bool.{lt-leb}
use Rattle.reader.proofs.Pairs.{pairs_cut_off, pairs_fit_begin, pairs_step, pairs_end}
use Rattle.reader.proofs.Statements.{count_by_header}
use Rattle.reader.proofs.Sheet.pairs_fit.Goals as goal
use Rattle.reader.proofs.Sheet.pairs_fit.Goals.{then-range-end-via-then-range-end, then-range-end-via-else-range-end+then-self-range}

pub returns-then-self-end : goal.returns-then-self-end
returns-then-self-end c =
    let sheet = c.args.self.now in
    pairs_cut_off sheet.file.now _ (count_by_header sheet.file.now sheet.read) c.if-self-end.true

pub loop-k-init : goal.loop-k-init
loop-k-init c =
    let sheet = c.args.self.now in
    pairs_fit_begin sheet.file.now _ (count_by_header sheet.file.now sheet.read) c.if-self-end.false

pub returns-then-range-end : goal.returns-then-range-end
returns-then-range-end c =
    let range = c.range-range.ensures in
    let step = pairs_step _ _ _ _ c.loop-k.invariant c.loop-k-test.true range.start range.end in
    elim c.then-range-end.branch [
      | then-range-end-via-then-range-end w ↦ rw (step, lt-leb _ _ w.if-range-end.true)
      | then-range-end-via-else-range-end+then-self-range w ↦
          rw (step, le-leb _ _ w.if-range-end.false, lt-leb _ _ w.if-self-range.true)
    ]

pub loop-k-preserved : goal.loop-k-preserved
loop-k-preserved c =
    let range = c.range-range.ensures in
    let step = pairs_step _ _ _ _ c.loop-k.invariant c.loop-k-test.true range.start range.end in
    rw (step, le-leb _ _ c.if-range-end.false, le-leb _ _ c.if-self-range.false)

pub returns : goal.returns
returns c = pairs_end c.args.self.now.file.now _ _ _ c.loop-k.invariant c.loop-k-test.false
