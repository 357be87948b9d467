-- What the command `lines` writes of an input: the rows of the lines that follow its head.
use Rattle.std.specs.Prelude.{◌≡◌, List, ℕ}
use Rattle.sonic_lines.specs.LineRows.{AreRows, HasErrorRow, together}
use Rattle.sonic_lines.specs.Streams.{lines_of}
use Rattle.sonic_reports.specs.Commands.Get.{IsPathsReport}
use Rattle.sonic_reports.specs.declared.status.Status.{Status}
use Rattle.sonic_reports.specs.declared.status.Status.TheVariants.{Done, DocumentError}
use Rattle.sonic_text.specs.Paths.{Path}

-- what `lines` writes of a stream for these paths: its rows, with the status of an error where some row is one
pub data ReportsRows (stream : List ℕ) (paths : List Path) (text : List ℕ) (status : Status) : Type 0 where
  with_error : AreRows (together paths) 0 stream text → HasErrorRow (together paths) (lines_of stream) → status ≡ DocumentError → ReportsRows stream paths text status
  without_error : AreRows (together paths) 0 stream text → ¬ HasErrorRow (together paths) (lines_of stream) → status ≡ Done → ReportsRows stream paths text status

-- what `lines` writes of an input
abbrev pub IsLinesReport : List ℕ → List ℕ → Status → Type 0
IsLinesReport = IsPathsReport ReportsRows
