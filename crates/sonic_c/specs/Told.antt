-- What a caller is told, in its own memory.
use Rattle.std.specs.Prelude.{◌≡◌, ◌⊎◌, ◌≢◌, ℕ, ◌+◌, ◌<◌, true, List, [], ◌∷◌, Option, Some, None, length, map}
use Rattle.sonic_error.specs.Places.{offset_of, line_of, column_of}
use Rattle.sonic_text.specs.declared.stop.Stop.{Stop}
use Rattle.sonic_text.specs.Paths.{Path}
use Rattle.sonic_find.specs.Answers.{Span as Found, Answer, IsAnswer, IsGetAnswer}
use Rattle.sonic_find.specs.Documents.{IsInvalid}
use Rattle.sonic_paths.specs.declared.lines.Head.TheVariants.{Paths, Bad}
use Rattle.sonic_paths.specs.Lines.{IsNodeLine, SaysPaths}
use Rattle.sonic_c.specs.declared.span.Span.{Span}
use Rattle.sonic_c.specs.declared.fault.Fault.{Fault}
use Rattle.sonic_find.specs.Causes.{IsAnswerable, IsGettable}
use Rattle.sonic_c.specs.Statuses.{status_wrong_count, status_ok, status_document_error, status_bad_lines, status_no_memory}
use Rattle.sonic_c.specs.Codes.{code_number}

-- the numbers are those of this stop in the text
pub record AreNumbersOf (t : List ℕ) (s : Stop) (told : Fault) : Type 0 where
  pub code : told.code ≡ code_number s.code
  pub line : told.line ≡ line_of t s.place
  pub column : told.column ≡ column_of t s.place
  pub offset : told.offset ≡ offset_of t s.place

-- so it says why the text is no document
pub record TellsInvalid (t : List ℕ) (told : Fault) : Type 0 where
  pub stop : Stop
  pub invalid : IsInvalid t true stop
  pub numbers : AreNumbersOf t stop told

-- or what the answer of the path is
pub record TellsRefused (t : List ℕ) (path : Path) (told : Fault) : Type 0 where
  pub stop : Stop
  pub answer : IsGetAnswer t true path (Answer.error stop)
  pub numbers : AreNumbersOf t stop told

-- or that of the paths
pub record TellAllRefused (t : List ℕ) (paths : List Path) (told : Fault) : Type 0 where
  pub stop : Stop
  pub answer : IsAnswer t true paths (Answer.error stop)
  pub numbers : AreNumbersOf t stop told

-- the span is where the path leads
abbrev pub TellsSpan : List ℕ → Path → Span → Type 0
TellsSpan t path span = IsGetAnswer t true path (Answer.spans (Some (span.start, span.end) ∷ []))

-- the caller's span and error
pub record Cells : Type 0 where
  pub span : Span
  pub error : Fault

-- what a call for one path comes to, with these cells before and after it
pub record IsGetCall (t line : List ℕ) (before after : Cells) (status : ℕ) : Type 0 where
  pub ok : status ≡ status_ok → (path : Path) × IsNodeLine line path × TellsSpan t path after.span
  pub document_error : status ≡ status_document_error → (path : Path) × IsNodeLine line path × TellsRefused t path after.error
  pub bad_line : status ≡ status_bad_lines → (path : Path) → ¬ IsNodeLine line path
  pub no_other : (status ≡ status_ok) ⊎ (status ≡ status_document_error) ⊎ (status ≡ status_bad_lines) ⊎ (status ≡ status_no_memory)
  pub span_kept : status ≢ status_ok → after.span ≡ before.span
  pub error_kept : status ≢ status_document_error → after.error ≡ before.error
  pub complete : (path : Path) → IsNodeLine line path → IsGettable t true path → (status ≡ status_ok) ⊎ (status ≡ status_no_memory)

-- the span of a value, or twice 0
abbrev pub shown_span : Option Found → Span
shown_span None = record { start = 0; end = 0 }
shown_span (Some (i, j)) = record { start = i; end = j }

-- the array has the spans of the paths' answer, in their order
pub record TellSpans (t : List ℕ) (paths : List Path) (told : List Span) : Type 0 where
  pub entries : List (Option Found)
  pub answer : IsAnswer t true paths (Answer.spans entries)
  pub shown : told ≡ map shown_span entries

-- the lines say these paths, and nothing comes after them but blank lines' ends
abbrev pub Say : List ℕ → List Path → Type 0
Say lines paths = SaysPaths lines (Paths paths (length lines))

-- this line, counted from 1, is the first that says no path beside those before it, or is blank with more after it
pub data SayBad (lines : List ℕ) (n : ℕ) : Type 0 where
  bad_path : SaysPaths lines (Bad n) → SayBad lines n
  blank_line : {paths : List Path} {d : ℕ} → SaysPaths lines (Paths paths d) → d < length lines → n ≡ length paths + 1 → SayBad lines n

-- the caller's spans and error
pub record ManyCells : Type 0 where
  pub spans : List Span
  pub error : Fault

-- the number of a line of the paths, or of the paths, and nothing else
abbrev pub at_line : ℕ → Fault
at_line number = record { code = 0; line = number; column = 0; offset = 0 }

-- what a call for many paths comes to, with these cells before and after it
pub record IsManyCall (t lines : List ℕ) (before after : ManyCells) (status : ℕ) : Type 0 where
  pub ok : status ≡ status_ok → (paths : List Path) × Say lines paths × TellSpans t paths after.spans
  pub document_error : status ≡ status_document_error → (paths : List Path) × Say lines paths × (length paths ≡ length before.spans) × TellAllRefused t paths after.error
  pub wrong_count : status ≡ status_wrong_count → (paths : List Path) × Say lines paths × (length paths ≢ length before.spans) × (after.error ≡ at_line (length paths))
  pub bad_lines : status ≡ status_bad_lines → (n : ℕ) × SayBad lines n × (after.error ≡ at_line n)
  pub no_other : (status ≡ status_ok) ⊎ (status ≡ status_document_error) ⊎ (status ≡ status_wrong_count) ⊎ (status ≡ status_bad_lines) ⊎ (status ≡ status_no_memory)
  pub spans_kept : status ≢ status_ok → after.spans ≡ before.spans
  pub error_kept : (status ≡ status_ok) ⊎ (status ≡ status_no_memory) → after.error ≡ before.error
  pub complete : (paths : List Path) → Say lines paths → length paths ≡ length before.spans → IsAnswerable t true paths → (status ≡ status_ok) ⊎ (status ≡ status_no_memory)
