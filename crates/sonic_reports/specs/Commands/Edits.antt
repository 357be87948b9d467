-- What the command `edit` writes of an input.
use Rattle.std.specs.Prelude.{◌≡◌, ℕ, true, List, ◌++◌, drop, codes}
use Rattle.std.specs.Fmt.{decimal}
use Rattle.sonic_text.specs.declared.stop.Stop.{Stop}
use Rattle.sonic_find.specs.Documents.{IsValidDocument, IsInvalid}
use Rattle.sonic_owned.specs.Edits.{AreEdits, IsFirstRefused}
use Rattle.sonic_owned.specs.Forms.{Form, text as text_of_form}
use Rattle.sonic_owned.specs.Owned.{IsRawDocument}
use Rattle.sonic_owned.specs.TreeEdits.{Edit}
use Rattle.sonic_edits.specs.Heads.{SaysEditsOf, SaysBadEdit}
use Rattle.sonic_reports.specs.declared.status.Status.{Status}
use Rattle.sonic_reports.specs.declared.status.Status.TheVariants.{Done, DocumentError, BadLines}
use Rattle.sonic_reports.specs.ErrorLines.{line_of_error}

-- what comes of the edits of a value: the number of the first that is refused, or the text of what they make
pub data ReportsMade (f : Form) (es : List (Edit Form)) (text : List ℕ) (status : Status) : Type 0 where
  refused : {n : ℕ} → IsFirstRefused es f n → text ≡ codes "! edit " ++ decimal n ++ codes "\n" → status ≡ DocumentError → ReportsMade f es text status
  made : {h : Form} → AreEdits es f h → text ≡ text_of_form h ++ codes "\n" → status ≡ Done → ReportsMade f es text status

-- what comes of the edits of a document: the line of the error that says why it is none, or what comes of them on its value
pub data ReportsEdits (document : List ℕ) (es : List (Edit Form)) (text : List ℕ) (status : Status) : Type 0 where
  invalid : (s : Stop) → IsInvalid document true s → text ≡ line_of_error document s.code s.place → status ≡ DocumentError
      → ReportsEdits document es text status
  valid : {f : Form} → IsValidDocument document → IsRawDocument document f → ReportsMade f es text status → ReportsEdits document es text status

-- what `edit` writes of an input
pub data IsEditReport (input text : List ℕ) (status : Status) : Type 0 where
  -- the first bad line is named by its number
  bad_edit : {n : ℕ} → SaysBadEdit input n → text ≡ codes "! edits " ++ decimal n ++ codes "\n" → status ≡ BadLines → IsEditReport input text status
  -- the edits are made in the document
  edited : {es : List (Edit Form)} {d : ℕ} → SaysEditsOf input es d → ReportsEdits (drop d input) es text status → IsEditReport input text status
