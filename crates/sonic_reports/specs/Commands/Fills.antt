-- What the command `fill` writes of an input.
use Rattle.std.specs.Prelude.{◌≡◌, ℕ, ◌+◌, true, List, ◌++◌, take, drop, codes}
use Rattle.sonic_paths.specs.Heads.{line_end}
use Rattle.sonic_text.specs.Places.{after_space}
use Rattle.sonic_text.specs.Trees.{Tree}
use Rattle.sonic_text.specs.declared.stop.Stop.{Stop}
use Rattle.sonic_reports.specs.declared.status.Status.{Status}
use Rattle.sonic_reports.specs.declared.status.Status.TheVariants.{Done, DocumentError, BadLines}
use Rattle.sonic_reports.specs.ErrorLines.{line_of_error}
use Rattle.sonic_value.specs.CompactTexts.{compact}
use Rattle.sonic_value.specs.Reading.{IsRead, IsUnread}
use Rattle.sonic_value.specs.Schemas.{IsFilled, IsUnfilled}

-- the first line, which may be all, and what comes after its line feed
abbrev pub first_line : List ℕ → List ℕ
first_line input = take (line_end input 0) input

abbrev pub after_first_line : List ℕ → List ℕ
after_first_line input = drop (line_end input 0 + 1) input

-- what comes of a schema that is filled from a document: the line of the error that says why it isn't, or its text
pub data ReportsFilled (document : List ℕ) (schema : Tree) (text : List ℕ) (status : Status) : Type 0 where
  unfilled : (s : Stop) → IsUnfilled document true schema (after_space document 0) s → text ≡ line_of_error document s.code s.place → status ≡ DocumentError
      → ReportsFilled document schema text status
  filled : {x : Tree} → IsFilled document schema x → text ≡ compact x ++ codes "\n" → status ≡ Done → ReportsFilled document schema text status

-- what `fill` writes of an input
pub data IsFillReport (input text : List ℕ) (status : Status) : Type 0 where
  -- the first line isn't read
  bad_schema : (s : Stop) → IsUnread (first_line input) true s → text ≡ codes "! schema 1\n" → status ≡ BadLines → IsFillReport input text status
  -- it is the schema that is filled from the rest
  reports_filled : {schema : Tree} → IsRead (first_line input) schema → ReportsFilled (after_first_line input) schema text status → IsFillReport input text status
