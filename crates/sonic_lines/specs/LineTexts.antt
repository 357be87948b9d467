-- What a line of a report is made of: texts after their lengths, dashes and errors.
use Rattle.std.specs.Prelude.{ℕ, List, ◌++◌, Option, Some, None, length, slice_range, codes}
use Rattle.std.specs.Fmt.{decimal}
use Rattle.sonic_error.specs.Codes.{category_of}
use Rattle.sonic_error.specs.Names.{word_of_category, name_of_code}
use Rattle.sonic_error.specs.declared.code.ErrorCode.{ErrorCode}
use Rattle.sonic_find.specs.Answers.{Span}
use Rattle.sonic_find.specs.declared.outcome.PathOutcome.{PathOutcome}
use Rattle.sonic_find.specs.declared.outcome.PathOutcome.TheVariants.{Found, Missing, Fails}
use Rattle.sonic_find.specs.declared.span.Span.{Span as Slot}

-- a text after its length in bytes
abbrev pub counted : List ℕ → List ℕ
counted text = decimal (length text) ++ codes " " ++ text

-- what is said of one path: the value's text after its length, or a dash where its key is lacked
abbrev pub entry_text : List ℕ → Option Span → List ℕ
entry_text document None = codes "-"
entry_text document (Some (i, j)) = counted (slice_range document i j)

-- what is said of one path by itself: where it fails, an exclamation mark and the code
abbrev pub outcome_text : List ℕ → PathOutcome Slot → List ℕ
outcome_text document (Found s) = counted (slice_range document s.start s.end)
outcome_text document (Missing q) = codes "-"
outcome_text document (Fails s) = codes "!" ++ name_of_code s.code

-- the line of an error: what comes before, the family, the code, and its position
abbrev pub error_text : List ℕ → ErrorCode → List ℕ → List ℕ
error_text before code position = codes "! " ++ before ++ word_of_category (category_of code) ++ codes " " ++ name_of_code code ++ codes " " ++ position ++ codes "\n"
