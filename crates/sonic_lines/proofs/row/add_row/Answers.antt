use Rattle.std.proofs.Common.{arith, refl}
use Rattle.sonic_lines.proofs.RowLemmas.{parts_within, no_error_line, row_refused}
use Rattle.sonic_lines.specs.LineRows.{IsBlankLine, entries_row}
use Rattle.sonic_lines.proofs.row.add_row.Goals as goal

pub add_entries-requires : goal.add_entries-requires
add_entries-requires c = parts_within _ _ c.in-Ok.ensures.parts

pub returns-in_ok-add_entries-in-Ok-clause-row : goal.returns-in_ok-add_entries-in-Ok-clause-row
returns-in_ok-add_entries-in-Ok-clause-row c =
    let filled : ¬ IsBlankLine c.args.line.now.text.now = λ blank. absurd (omega arith) in
    (_, entries_row filled c.in-Ok.ensures.ok refl, c.in_ok-add_entries-in-Ok.ensures.ok)

pub returns-in_ok-add_entries-in-Ok-clause-error : goal.returns-in_ok-add_entries-in-Ok-clause-error
returns-in_ok-add_entries-in-Ok-clause-error c = (λ e. absurd cc, λ x. absurd (no_error_line c.in-Ok.ensures.ok x))

pub returns-in_ok-add_error-in-Err-clause-row : goal.returns-in_ok-add_error-in-Err-clause-row
returns-in_ok-add_error-in-Err-clause-row c =
    let filled : ¬ IsBlankLine c.args.line.now.text.now = λ blank. absurd (omega arith) in
    (row_refused c.error.result _ _ c.args.line.now.number c.in-Err.fault c.in-Err.ensures.err c.error.ensures c.in_ok-add_error-in-Err.ensures.memory filled c.in_ok-add_error-in-Err.ensures.ok).0

pub returns-in_ok-add_error-in-Err-clause-error : goal.returns-in_ok-add_error-in-Err-clause-error
returns-in_ok-add_error-in-Err-clause-error c =
    let filled : ¬ IsBlankLine c.args.line.now.text.now = λ blank. absurd (omega arith) in
    (λ e. (row_refused c.error.result _ _ c.args.line.now.number c.in-Err.fault c.in-Err.ensures.err c.error.ensures c.in_ok-add_error-in-Err.ensures.memory filled c.in_ok-add_error-in-Err.ensures.ok).1, λ x. refl)
