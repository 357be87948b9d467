-- The rows of the lines of a stream: what paths are answered in each line, which is read by itself.
use Rattle.std.specs.Prelude.{◌≡◌, ℕ, ◌+◌, ◌≤◌, Bool, true, false, List, [], ◌∷◌, ◌++◌, Option, length, codes, IsTrue, IsFalse}
use Rattle.std.specs.Fmt.{decimal}
use Rattle.sonic_error.specs.Places.{offset_of}
use Rattle.sonic_find.specs.Answers.{Span as Pair, IsAnswer, spans, error}
use Rattle.sonic_find.specs.Outcomes.{EachAnswer, IsEachAnswerBy}
use Rattle.sonic_find.specs.declared.outcome.PathOutcome.{PathOutcome}
use Rattle.sonic_find.specs.declared.span.Span.{Span}
use Rattle.sonic_lines.specs.LineTexts.{entry_text, outcome_text, error_text}
use Rattle.sonic_lines.specs.Streams.{lines_of}
use Rattle.sonic_pointer.specs.declared.rule.KeyRule.TheVariants.{First}
use Rattle.sonic_text.specs.Paths.{Path}
use Rattle.sonic_text.specs.Places.{after_space}
use Rattle.sonic_text.specs.declared.stop.Stop.{Stop}

-- the columns of a row: what these paths are answered, all together or each by itself
pub record Columns : Type 0 where
  pub paths : List Path
  pub each : Bool

-- what they are answered together
abbrev pub together : List Path → Columns
together paths = record { paths = paths; each = false }

-- what each is told by itself
abbrev pub apart : List Path → Columns
apart paths = record { paths = paths; each = true }

-- the line has nothing but white space in it
abbrev pub IsBlankLine : List ℕ → Type 0
IsBlankLine line = length line ≤ after_space line 0

-- what a row says of all paths, with a tab between two of them
abbrev pub entries_text : List ℕ → List (Option Pair) → List ℕ
entries_text line [] = []
entries_text line (e ∷ []) = entry_text line e
entries_text line (e ∷ f ∷ es) = entry_text line e ++ 9 ∷ entries_text line (f ∷ es)

-- what it says of each path by itself
abbrev pub outcomes_text : List ℕ → List (PathOutcome Span) → List ℕ
outcomes_text line [] = []
outcomes_text line (x ∷ []) = outcome_text line x
outcomes_text line (x ∷ y ∷ xs) = outcome_text line x ++ 9 ∷ outcomes_text line (y ∷ xs)

-- the row of an error: the number of the line, the family, the code and the offset in the line
abbrev pub error_row : ℕ → List ℕ → Stop → List ℕ
error_row n line s = error_text (decimal n ++ codes " ") s.code (decimal (offset_of line s.place))

-- the columns of a line, which came as bytes or not, have this text
pub data AreColumns (is_bytes : Bool) (c : Columns) (line text : List ℕ) : Type 0 where
  all_answered : {entries : List (Option Pair)} → IsFalse c.each → IsAnswer line is_bytes c.paths (spans entries) → text ≡ entries_text line entries
      → AreColumns is_bytes c line text
  each_answered : {told : List (PathOutcome Span)} → IsTrue c.each → IsEachAnswerBy First line is_bytes c.paths (EachAnswer.outcomes told)
      → text ≡ outcomes_text line told → AreColumns is_bytes c line text

-- or the line has an error in their place
pub data IsLineStop (is_bytes : Bool) (c : Columns) (line : List ℕ) (s : Stop) : Type 0 where
  all_refused : IsFalse c.each → IsAnswer line is_bytes c.paths (error s) → IsLineStop is_bytes c line s
  each_refused : IsTrue c.each → IsEachAnswerBy First line is_bytes c.paths (EachAnswer.error s) → IsLineStop is_bytes c line s

-- the row of the line with this number, counted from 1
pub data IsRow (c : Columns) (n : ℕ) (line row : List ℕ) : Type 0 where
  blank_row : IsBlankLine line → row ≡ [] → IsRow c n line row
  entries_row : {text : List ℕ} → ¬ IsBlankLine line → AreColumns true c line text → row ≡ text ++ codes "\n" → IsRow c n line row
  refused_row : {s : Stop} → ¬ IsBlankLine line → IsLineStop true c line s → row ≡ error_row n line s → IsRow c n line row

-- the rows of lines, of which the first has the number n + 1
pub data AreRowsOf (c : Columns) : ℕ → List (List ℕ) → List ℕ → Type 0 where
  no_row : {n : ℕ} → AreRowsOf c n [] []
  one_more_row : {n : ℕ} {line row rest rows : List ℕ} {lines : List (List ℕ)} → IsRow c (n + 1) line row → AreRowsOf c (n + 1) lines rest
      → rows ≡ row ++ rest → AreRowsOf c n (line ∷ lines) rows

-- the rows of a stream, before which there were n lines
abbrev pub AreRows : Columns → ℕ → List ℕ → List ℕ → Type 0
AreRows c n stream rows = AreRowsOf c n (lines_of stream) rows

-- the line is answered with an error
pub record IsErrorLine (c : Columns) (line : List ℕ) : Type 0 where
  pub stop : Stop
  pub filled : ¬ IsBlankLine line
  pub answer : IsLineStop true c line stop

-- some line is
pub data HasErrorRow (c : Columns) : List (List ℕ) → Type 0 where
  error_here : {line : List ℕ} {lines : List (List ℕ)} → IsErrorLine c line → HasErrorRow c (line ∷ lines)
  error_later : {line : List ℕ} {lines : List (List ℕ)} → HasErrorRow c lines → HasErrorRow c (line ∷ lines)
