-- What the command `get` writes of an input.
use Rattle.std.specs.Prelude.{◌≡◌, ℕ, ◌≤◌, true, List, ◌++◌, length, drop, codes}
use Rattle.std.specs.Fmt.{decimal}
use Rattle.std.specs.List.{flat_map}
use Rattle.std.specs.declared.option.Option.{Option}
use Rattle.sonic_text.specs.declared.stop.Stop.{Stop}
use Rattle.sonic_text.specs.Paths.{Path}
use Rattle.sonic_find.specs.Answers.{Span, Answer, spans, error, IsAnswerBy}
use Rattle.sonic_find.specs.Causes.{IsAnswerableBy}
use Rattle.sonic_lines.specs.LineTexts.{entry_text}
use Rattle.sonic_pointer.specs.declared.rule.KeyRule.{KeyRule}
use Rattle.sonic_pointer.specs.declared.rule.KeyRule.TheVariants.{First}
use Rattle.sonic_io.specs.Outside.{input_limit}
use Rattle.sonic_reports.specs.declared.status.Status.{Status}
use Rattle.sonic_reports.specs.declared.status.Status.TheVariants.{Done, DocumentError, BadLines}
use Rattle.sonic_reports.specs.ErrorLines.{line_of_error}
use Rattle.sonic_paths.specs.Heads.{IsHead}
use Rattle.sonic_paths.specs.Lines.{AreLines, IsFirstBadLine}

-- the line of an entry: of the value that a path finds, or a dash where a key is lacked
abbrev pub line_of_entry : List ℕ → Option Span → List ℕ
line_of_entry document entry = entry_text document entry ++ codes "\n"

-- what `get` writes of an answer: the lines of its entries, or the line of its error
pub data IsAnswerReport (document : List ℕ) : Answer → List ℕ → Status → Type 0 where
  entry_lines : {entries : List (Option Span)} {text : List ℕ} {status : Status} → text ≡ flat_map (line_of_entry document) entries → status ≡ Done
      → IsAnswerReport document (spans entries) text status
  error_line : {stop : Stop} {text : List ℕ} {status : Status} → text ≡ line_of_error document stop.code stop.place → status ≡ DocumentError
      → IsAnswerReport document (error stop) text status

-- what `get` writes of a document, in which it follows these paths under a rule for equal keys
pub record ReportsPathsBy (rule : KeyRule) (document : List ℕ) (paths : List Path) (text : List ℕ) (status : Status) : Type 0 where
  pub answer : Answer
  pub answers : IsAnswerBy rule document true paths answer
  pub report : IsAnswerReport document answer text status

-- and by first equal keys
abbrev pub ReportsPaths : List ℕ → List Path → List ℕ → Status → Type 0
ReportsPaths = ReportsPathsBy First

-- what is written of an input whose head says paths, where these are the reports of its document
pub data IsPathsReport (ReportsDocument : List ℕ → List Path → List ℕ → Status → Type 0) (input : List ℕ) : List ℕ → Status → Type 0 where
  -- the first bad line is named by its number
  bad_line : {lines : List (List ℕ)} {d n : ℕ} {text : List ℕ} → IsHead input 0 lines d → IsFirstBadLine lines n
      → text ≡ codes "! paths " ++ decimal n ++ codes "\n" → IsPathsReport ReportsDocument input text BadLines
  -- the paths are followed in the document
  answered : {lines : List (List ℕ)} {paths : List Path} {d : ℕ} {text : List ℕ} {status : Status} → IsHead input 0 lines d → AreLines lines paths
      → ReportsDocument (drop d input) paths text status → IsPathsReport ReportsDocument input text status

-- what `get` writes of an input under a rule
abbrev pub IsGetReport : KeyRule → List ℕ → List ℕ → Status → Type 0
IsGetReport rule = IsPathsReport (ReportsPathsBy rule)

-- the input is within the limit, each line of its head says a path, and in the document after it each path finds a value or lacks its key under the rule, as far as the text is needed for that
pub record IsAnswerableInput (rule : KeyRule) (input : List ℕ) : Type 0 where
  pub within : length input ≤ input_limit
  pub lines : List (List ℕ)
  pub document : ℕ
  pub head : IsHead input 0 lines document
  pub paths : List Path
  pub say : AreLines lines paths
  pub answerable : IsAnswerableBy rule (drop document input) true paths
