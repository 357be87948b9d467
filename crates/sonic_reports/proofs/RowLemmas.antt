-- An input has one report by `lines`.
use Rattle.std.proofs.Common.{◌⊎◌, ◌∙◌, sym, inl, inr, refl, ℕ, List, [], ◌∷◌, length, arith}
use Rattle.std.proofs.lemmas.Bool.{cases_lt}
use Rattle.sonic_lines.proofs.RowLemmas.{columns_some, no_error_line, stream_rows}
use Rattle.sonic_lines.specs.LineRows.{Columns, together, IsErrorLine, HasErrorRow, error_here, error_later}
use Rattle.sonic_lines.specs.Streams.{lines_of}
use Rattle.sonic_text.specs.Places.{after_space}
use Rattle.sonic_text.specs.Paths.{Path}
use Rattle.sonic_reports.proofs.GetLemmas.{Same, SomeText, HaveOneReport, input_report_one, input_report_some}
use Rattle.sonic_reports.specs.Commands.Rows.{ReportsRows, with_error, without_error, IsLinesReport}
use Rattle.sonic_reports.specs.declared.status.Status.{Status}

-- a line is answered with an error or not
error_or_not : (columns : Columns) (line : List ℕ) → IsErrorLine columns line ⊎ ¬ IsErrorLine columns line
error_or_not columns line = elim (cases_lt (after_space line 0) (length line)) [
  | inl filled ↦ elim (columns_some columns line) [
    | inl text ↦ inr (no_error_line text.1)
    | inr stop ↦ inl (record { stop = stop.0; filled = λ blank. absurd (omega arith); answer = stop.1 })
  ]
  | inr blank ↦ inr (λ x. x.filled blank)
]

-- no line is none
none_there : {columns : Columns} → ¬ HasErrorRow columns []
none_there h = elim h [ ]

-- and lines have none where the first has none, and the others
neither : {columns : Columns} {line : List ℕ} {lines : List (List ℕ)} → ¬ IsErrorLine columns line → ¬ HasErrorRow columns lines → ¬ HasErrorRow columns (line ∷ lines)
neither first others (error_here x) = first x
neither first others (error_later h) = others h

-- some row is an error or none
error_row_or_none : (columns : Columns) (lines : List (List ℕ)) → HasErrorRow columns lines ⊎ ¬ HasErrorRow columns lines
error_row_or_none columns [] = inr none_there
error_row_or_none columns (line ∷ lines) = elim (error_or_not columns line) [
  | inl x ↦ inl (error_here x)
  | inr first ↦ elim (error_row_or_none columns lines) [ inl h ↦ inl (error_later h) | inr others ↦ inr (neither first others) ]
]

-- paths have one report in a stream
rows_report_one : HaveOneReport ReportsRows
rows_report_one stream paths text other status ending (with_error r h z) (with_error s g y) = ((stream_rows (together paths) 0 stream).one other text s r, y ∙ sym z)
rows_report_one stream paths text other status ending (with_error r h z) (without_error s n y) = absurd (n h)
rows_report_one stream paths text other status ending (without_error r n z) (with_error s h y) = absurd (n h)
rows_report_one stream paths text other status ending (without_error r n z) (without_error s m y) =
    ((stream_rows (together paths) 0 stream).one other text s r, y ∙ sym z)

-- and some
rows_report_some : (stream : List ℕ) (paths : List Path) → SomeText (ReportsRows stream paths)
rows_report_some stream paths =
    let some = (stream_rows (together paths) 0 stream).some in
    elim (error_row_or_none (together paths) (lines_of stream)) [
      | inl h ↦ (some.0, _, with_error some.1 h refl)
      | inr n ↦ (some.0, _, without_error some.1 n refl)
    ]

-- so an input has one by `lines`
pub lines_report_one : {input text other : List ℕ} {status ending : Status} → IsLinesReport input text status → IsLinesReport input other ending
    → Same text status other ending
lines_report_one = input_report_one rows_report_one

-- and some
pub lines_report_some : (input : List ℕ) → SomeText (IsLinesReport input)
lines_report_some = input_report_some rows_report_some
