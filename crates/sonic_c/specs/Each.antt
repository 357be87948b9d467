-- What calls that tell each path where it leads come to.
use Rattle.std.specs.Prelude.{◌≡◌, ◌≢◌, ℕ, true, List, length, map}
use Rattle.sonic_find.specs.Outcomes.{EachAnswer, IsEachAnswerBy}
use Rattle.sonic_find.specs.declared.outcome.PathOutcome.{PathOutcome}
use Rattle.sonic_find.specs.declared.outcome.PathOutcome.TheVariants.{Found, Missing, Fails}
use Rattle.sonic_find.specs.declared.span.Span.{Span as Slot}
use Rattle.sonic_pointer.specs.declared.rule.KeyRule.TheVariants.{First}
use Rattle.sonic_text.specs.Paths.{Path}
use Rattle.sonic_text.specs.declared.stop.Stop.{Stop}
use Rattle.sonic_c.specs.Codes.{code_number}
use Rattle.sonic_c.specs.Kept.{PathList}
use Rattle.sonic_c.specs.Statuses.{status_ok, status_document_error, status_wrong_count, status_bad_lines, status_no_memory}
use Rattle.sonic_c.specs.Told.{AreNumbersOf, Say, SayBad, at_line}
use Rattle.sonic_c.specs.declared.fault.Fault.{Fault}
use Rattle.sonic_c.specs.declared.outcome.Outcome.{Outcome}

-- what a caller is told of where a path leads: 0 and the span of the value, 1 and the closing brace of the object that lacks the key, or 2 with the code and the place of the fail
abbrev pub told_outcome : PathOutcome Slot → Outcome
told_outcome (Found s) = record { status = 0; code = 0; span = record { start = s.start; end = s.end }; place = 0 }
told_outcome (Missing q) = record { status = 1; code = 0; span = record { start = 0; end = 0 }; place = q }
told_outcome (Fails s) = record { status = 2; code = code_number s.code; span = record { start = 0; end = 0 }; place = s.place }

-- the caller's outcomes and error
pub record EachCells : Type 0 where
  pub outcomes : List Outcome
  pub error : Fault

-- what a call for a list of paths comes to, with these cells before and after it
pub data IsEachListCall (t : List ℕ) (list : PathList) (before after : EachCells) (status : ℕ) : Type 0 where
  -- each path is told where it leads
  all_paths_told : {told : List (PathOutcome Slot)} → length list.paths ≡ length before.outcomes
      → IsEachAnswerBy list.rule t true list.paths (EachAnswer.outcomes told) → status ≡ status_ok → after.outcomes ≡ map told_outcome told
      → after.error ≡ before.error → IsEachListCall t list before after status
  -- the text has an error
  text_refused : {s : Stop} → length list.paths ≡ length before.outcomes → IsEachAnswerBy list.rule t true list.paths (EachAnswer.error s)
      → status ≡ status_document_error → AreNumbersOf t s after.error → after.outcomes ≡ before.outcomes → IsEachListCall t list before after status
  -- there are not as many paths as outcomes
  paths_miscounted : length list.paths ≢ length before.outcomes → status ≡ status_wrong_count → after.error ≡ at_line (length list.paths)
      → after.outcomes ≡ before.outcomes → IsEachListCall t list before after status
  no_memory_left : status ≡ status_no_memory → after.error ≡ before.error → after.outcomes ≡ before.outcomes → IsEachListCall t list before after status

-- what a call for the paths that lines say comes to
pub data IsEachCall (t lines : List ℕ) (before after : EachCells) (status : ℕ) : Type 0 where
  lines_say : {paths : List Path} → Say lines paths → IsEachListCall t (record { rule = First; paths = paths }) before after status
      → IsEachCall t lines before after status
  lines_are_bad : {n : ℕ} → SayBad lines n → status ≡ status_bad_lines → after.error ≡ at_line n → after.outcomes ≡ before.outcomes
      → IsEachCall t lines before after status
  no_memory_for_lines : status ≡ status_no_memory → after.error ≡ before.error → after.outcomes ≡ before.outcomes → IsEachCall t lines before after status
