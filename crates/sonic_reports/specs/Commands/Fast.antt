-- What the command `fast` writes of an input.
use Rattle.std.specs.Prelude.{◌≡◌, ℕ, true, List}
use Rattle.sonic_text.specs.declared.stop.Stop.{Stop}
use Rattle.sonic_text.specs.Paths.{Path}
use Rattle.sonic_find.specs.Documents.{IsValidDocument, IsInvalid}
use Rattle.sonic_reports.specs.declared.status.Status.{Status}
use Rattle.sonic_reports.specs.declared.status.Status.TheVariants.{DocumentError}
use Rattle.sonic_reports.specs.Commands.Get.{ReportsPaths, IsPathsReport}
use Rattle.sonic_reports.specs.ErrorLines.{line_of_error}

-- what `fast` writes of a document for these paths: the line of the error that says why it is none, or what `get` writes
pub data ReportsValid (document : List ℕ) (paths : List Path) (text : List ℕ) (status : Status) : Type 0 where
  invalid : (s : Stop) → IsInvalid document true s → text ≡ line_of_error document s.code s.place → status ≡ DocumentError
      → ReportsValid document paths text status
  valid : IsValidDocument document → ReportsPaths document paths text status → ReportsValid document paths text status

-- what `fast` writes of an input
abbrev pub IsFastReport : List ℕ → List ℕ → Status → Type 0
IsFastReport = IsPathsReport ReportsValid
