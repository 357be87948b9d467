-- What the commands `min` and `indent` write of an input: a text of the document.
use Rattle.std.specs.Prelude.{◌≡◌, ℕ, true, List, ◌++◌, codes}
use Rattle.sonic_find.specs.Documents.{IsValidDocument, IsInvalid}
use Rattle.sonic_min.specs.Texts.{IsSmallText, IsWideText}
use Rattle.sonic_text.specs.declared.stop.Stop.{Stop}
use Rattle.sonic_reports.specs.declared.status.Status.{Status}
use Rattle.sonic_reports.specs.declared.status.Status.TheVariants.{Done, DocumentError}
use Rattle.sonic_reports.specs.ErrorLines.{line_of_error}

-- what is written of an input, which is its document: the text that it is to have, or the line of the error that says why it is none
pub data ReportsText (IsText : List ℕ → Type 0) (input text : List ℕ) (status : Status) : Type 0 where
  invalid : (s : Stop) → IsInvalid input true s → text ≡ line_of_error input s.code s.place → status ≡ DocumentError → ReportsText IsText input text status
  valid : (own : List ℕ) → IsValidDocument input → IsText own → text ≡ own ++ codes "\n" → status ≡ Done → ReportsText IsText input text status

-- what `min` writes: the small text
abbrev pub IsMinReport : List ℕ → List ℕ → Status → Type 0
IsMinReport input = ReportsText (IsSmallText input) input

-- what `indent` writes: the wide text, with this many blanks for each level of depth
abbrev pub IsIndentReport : ℕ → List ℕ → List ℕ → Status → Type 0
IsIndentReport width input = ReportsText (IsWideText input width) input
