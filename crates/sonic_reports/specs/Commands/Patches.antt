-- What the command `patch` writes of an input.
use Rattle.std.specs.Prelude.{◌≡◌, ℕ, true, List, ◌++◌, codes}
use Rattle.std.specs.Fmt.{decimal}
use Rattle.std.specs.Str.{IsUtf8}
use Rattle.sonic_find.specs.Documents.{IsValidDocument, IsInvalid}
use Rattle.sonic_owned.specs.Forms.{Form, text as text_of_form}
use Rattle.sonic_owned.specs.Owned.{IsRawDocument}
use Rattle.sonic_patch.specs.Operations.{Operation}
use Rattle.sonic_patch.specs.Patches.{OperationsMake, IsFirstUnmade}
use Rattle.sonic_patch.specs.Patching.{Cause, missing, test_failed, into_child}
use Rattle.sonic_patch.specs.Reading.{SaysPatch, Reason, HasReason}
use Rattle.sonic_reports.specs.Commands.Fills.{first_line, after_first_line}
use Rattle.sonic_reports.specs.ErrorLines.{line_of_error}
use Rattle.sonic_reports.specs.declared.status.Status.{Status}
use Rattle.sonic_reports.specs.declared.status.Status.TheVariants.{Done, DocumentError, BadLines}
use Rattle.sonic_text.specs.declared.stop.Stop.{Stop}

-- the word that says why an operation isn't made
abbrev pub word_of_cause : Cause → List ℕ
word_of_cause missing = codes "Missing"
word_of_cause test_failed = codes "TestFailed"
word_of_cause into_child = codes "IntoChild"

-- what comes of the operations on a value: the number and the cause of the first that isn't made, or the text of what they make
pub data ReportsPatched (f : Form) (ops : List (Operation Form)) (text : List ℕ) (status : Status) : Type 0 where
  unmade : {n : ℕ} {cause : Cause} → IsFirstUnmade ops f n cause → text ≡ codes "! op " ++ decimal n ++ codes " " ++ word_of_cause cause ++ codes "\n"
      → status ≡ DocumentError → ReportsPatched f ops text status
  made : {h : Form} → OperationsMake ops f h → text ≡ text_of_form h ++ codes "\n" → status ≡ Done → ReportsPatched f ops text status

-- what comes of them on a document: the line of the error that says why it is none, or what comes of them on its value
pub data ReportsPatch (document : List ℕ) (ops : List (Operation Form)) (text : List ℕ) (status : Status) : Type 0 where
  invalid : (s : Stop) → IsInvalid document true s → text ≡ line_of_error document s.code s.place → status ≡ DocumentError
      → ReportsPatch document ops text status
  valid : {f : Form} → IsValidDocument document → IsRawDocument document f → ReportsPatched f ops text status → ReportsPatch document ops text status

-- what `patch` writes of an input
pub data IsPatchReport (input text : List ℕ) (status : Status) : Type 0 where
  -- the first line isn't UTF-8
  no_text : ¬ IsUtf8 (first_line input) → text ≡ codes "! patch 1\n" → status ≡ BadLines → IsPatchReport input text status
  -- it says no patch
  bad_patch : {reason : Reason} → IsUtf8 (first_line input) → HasReason (first_line input) reason → text ≡ codes "! patch 1\n" → status ≡ BadLines
      → IsPatchReport input text status
  -- it says operations, which are made on the rest
  reports_patch : {ops : List (Operation Form)} → IsUtf8 (first_line input) → SaysPatch (first_line input) ops
      → ReportsPatch (after_first_line input) ops text status → IsPatchReport input text status
