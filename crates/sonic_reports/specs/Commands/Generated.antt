-- What the command `gen` writes: a report over a document that it makes itself.
use Rattle.std.specs.Prelude.{◌≡◌, ℕ, zero, suc, ◌-◌, ◌%◌, ◌==◌, if◌then◌else◌, Bool, true, false, List, [], ◌∷◌, ◌++◌, length, sum_by, count_by, not, codes}
use Rattle.std.specs.Fmt.{decimal}
use Rattle.std.specs.declared.option.Option.{Option}
use Rattle.std.specs.declared.option.Option.TheVariants.{Some, None}
use Rattle.sonic_text.specs.declared.stop.Stop.{Stop}
use Rattle.sonic_text.specs.Paths.{Path, key, index}
use Rattle.sonic_find.specs.Answers.{Span, spans, error, IsAnswer, span_text}
use Rattle.sonic_find.specs.Documents.{IsValidDocument, IsInvalid}
use Rattle.sonic_reports.specs.declared.status.Status.{Status}
use Rattle.sonic_reports.specs.declared.status.Status.TheVariants.{Done, DocumentError}
use Rattle.sonic_reports.specs.ErrorLines.{line_of_error}

-- even numbers are marked true, and odd ones false
abbrev pub mark : ℕ → List ℕ
mark i = if i % 2 == 0 then codes "true" else codes "false"

-- the object with this number
abbrev pub record_text : ℕ → List ℕ
record_text i =
    codes "{\"id\":" ++ decimal i
    ++ codes ",\"name\":\"n\\\"" ++ decimal i
    ++ codes "\",\"tags\":[" ++ decimal i
    ++ codes ", \"x\\\\\"],\"ok\":" ++ mark i ++ codes "}"

-- a comma stands before each object but the first
abbrev pub separator : ℕ → List ℕ
separator i = if i == 0 then [] else codes ","

-- the first n objects
unfoldable pub records : ℕ → List ℕ
records zero = []
records (suc i) = records i ++ separator i ++ record_text i

-- the document of n objects
abbrev pub generated : ℕ → List ℕ
generated n = codes "[" ++ records n ++ codes "]"

-- the paths that are asked for: a name, a number, a key that is absent, and a whole object
abbrev pub asked_paths : ℕ → List Path
asked_paths n =
    (index (n - 1) ∷ key (codes "name") ∷ [])
    ∷ (index 0 ∷ key (codes "id") ∷ [])
    ∷ (index (n - 1) ∷ key (codes "missing") ∷ [])
    ∷ (index (n - 1) ∷ [])
    ∷ []

-- an entry is found, or it is absent
abbrev pub is_found : {A : Type 0} → Option A → Bool
is_found (Some a) = true
is_found None = false

abbrev pub is_absent : {A : Type 0} → Option A → Bool
is_absent entry = not (is_found entry)

-- the length of the text of an entry, if it is found
abbrev pub found_length : List ℕ → Option Span → ℕ
found_length document (Some span) = length (span_text document span)
found_length document None = 0

-- how many entries are found, how many are absent, and how long the texts found are together
abbrev pub counts_text : List ℕ → List (Option Span) → List ℕ
counts_text document entries =
    decimal (count_by is_found entries) ++ codes " " ++ decimal (count_by is_absent entries) ++ codes " " ++ decimal (sum_by (found_length document) entries)

-- the four lines over n objects, of which the paths have these entries: the checked walk and the one without a second look find the same
abbrev pub lines_of_counts : ℕ → List (Option Span) → List ℕ
lines_of_counts n entries =
    codes "objects " ++ decimal n
    ++ codes "\nbytes " ++ decimal (length (generated n))
    ++ codes "\nchecked " ++ counts_text (generated n) entries
    ++ codes "\nunchecked " ++ counts_text (generated n) entries
    ++ codes "\n"

-- what `gen` writes of n objects: the line of the error that says why their text is no document or that answers the paths, or the four lines
pub data IsGenReport (n : ℕ) (text : List ℕ) (status : Status) : Type 0 where
  invalid : (s : Stop) → IsInvalid (generated n) true s → text ≡ line_of_error (generated n) s.code s.place → status ≡ DocumentError → IsGenReport n text status
  stopped : (s : Stop) → IsValidDocument (generated n) → IsAnswer (generated n) true (asked_paths n) (error s)
      → text ≡ line_of_error (generated n) s.code s.place → status ≡ DocumentError → IsGenReport n text status
  counted : {entries : List (Option Span)} → IsValidDocument (generated n) → IsAnswer (generated n) true (asked_paths n) (spans entries)
      → text ≡ lines_of_counts n entries → status ≡ Done → IsGenReport n text status
