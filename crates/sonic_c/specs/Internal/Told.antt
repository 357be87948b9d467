-- What private calls say to the cells of a caller.
use Rattle.std.specs.Prelude.{◌≡◌, ◌≢◌, ℕ, List, Option, Result, Ok, Err, length, map, option_map}
use Rattle.sonic_error.specs.Errors.{error_code}
use Rattle.sonic_error.specs.declared.error.Error.{Error}
use Rattle.sonic_error.specs.declared.code.ErrorCode.TheVariants.{NoMemory}
use Rattle.sonic_find.specs.Found.{found_in}
use Rattle.sonic_find.specs.declared.outcome.PathOutcome.{PathOutcome}
use Rattle.sonic_find.specs.declared.span.Span.{Span as Slot}
use Rattle.sonic_text.specs.Paths.{Path}
use Rattle.sonic_c.specs.declared.fault.Fault.{Fault}
use Rattle.sonic_c.specs.declared.span.Span.{Span}
use Rattle.sonic_find.specs.Spans.{pairs_of, pair_of}
use Rattle.sonic_c.specs.Statuses.{status_wrong_count, status_ok, status_document_error, status_bad_lines, status_no_memory}
use Rattle.sonic_c.specs.Internal.Numbers.{numbers_of}
use Rattle.sonic_c.specs.Told.{Cells, shown_span, Say, SayBad, ManyCells, at_line}

-- an error is told with this status, unless memory ran out
pub data TellsErrorAs (why : ℕ) (e : Error) (before after : Fault) (status : ℕ) : Type 0 where
  no_memory : error_code e ≡ NoMemory → status ≡ status_no_memory → after ≡ before → TellsErrorAs why e before after status
  told : error_code e ≢ NoMemory → status ≡ why → after ≡ numbers_of e → TellsErrorAs why e before after status

-- and as one of the document
abbrev pub TellsError : Error → Fault → Fault → ℕ → Type 0
TellsError = TellsErrorAs status_document_error

-- a span is told, or an error
abbrev pub TellsSlot : Result Slot Error → Cells → Cells → ℕ → Type 0
TellsSlot (Ok found) before after status = (status ≡ status_ok) × (after.span ≡ record { start = found.start; end = found.end }) × (after.error ≡ before.error)
TellsSlot (Err e) before after status = TellsError e before.error after.error status × (after.span ≡ before.span)

-- lines are refused, as they say no paths, or not so many, or for want of memory
pub data RefusesLines (lines : List ℕ) (count : ℕ) (before after : Fault) (status : ℕ) : Type 0 where
  no_room : status ≡ status_no_memory → after ≡ before → RefusesLines lines count before after status
  bad_lines : {n : ℕ} → status ≡ status_bad_lines → SayBad lines n → after ≡ at_line n → RefusesLines lines count before after status
  wrong_count : {paths : List Path} → status ≡ status_wrong_count → Say lines paths → length paths ≢ count → after ≡ at_line (length paths)
      → RefusesLines lines count before after status

-- spans are told, or an error
abbrev pub TellsAll : Result (Unit {0}) Error → List (Option Slot) → ManyCells → ManyCells → ℕ → Type 0
TellsAll (Ok done) slots before after status = (status ≡ status_ok) × (after.spans ≡ map shown_span (pairs_of slots)) × (after.error ≡ before.error)
TellsAll (Err e) slots before after status = TellsError e before.error after.error status × (after.spans ≡ before.spans)

-- what is told of where a path leads
abbrev pub shown_outcome : PathOutcome Slot → Span
shown_outcome x = shown_span (option_map pair_of (found_in x))
