-- Check 8 of the trimmed rows refuses them, or they are what the first step gives.
use Rattle.builder.proofs.FirstStep.{rows_listable, rows_refused, rows_trimmed}
use Rattle.builder.proofs.Sheet.trim_rows.Goals as goal

pub is_too_wide-requires : goal.is_too_wide-requires
is_too_wide-requires c =
    let put = rw c.from-settings.ensures at c.trim_statements-s.ensures.trimmed in
    rows_listable _ _ _ _ _ _ put c.ershovs.ensures

pub returns-then-is_too_wide-clause-trimmed : goal.returns-then-is_too_wide-clause-trimmed
returns-then-is_too_wide-clause-trimmed c =
    let put = rw c.from-settings.ensures at c.trim_statements-s.ensures.trimmed in
    rows_refused _ _ _ _ _ _ put c.ershovs.ensures _ c.is_too_wide.ensures c.if-is_too_wide.true

pub returns-clause-trimmed : goal.returns-clause-trimmed
returns-clause-trimmed c =
    let put = rw c.from-settings.ensures at c.trim_statements-s.ensures.trimmed in
    rows_trimmed _ _ _ _ _ _ put c.ershovs.ensures _ c.is_too_wide.ensures c.if-is_too_wide.false
