-- What calls for paths that are kept come to.
use Rattle.std.specs.Prelude.{◌≡◌, ◌⊎◌, ◌≢◌, ℕ, ◌<◌, ◌≤◌, true, List, Option, length, map}
use Rattle.sonic_text.specs.declared.stop.Stop.{Stop}
use Rattle.sonic_text.specs.Paths.{Path}
use Rattle.sonic_find.specs.Answers.{Span as Found, Answer, IsAnswerBy}
use Rattle.sonic_find.specs.Causes.{IsAnswerableBy}
use Rattle.sonic_c.specs.Kept.{PathList, rule_number}
use Rattle.sonic_c.specs.Statuses.{status_ok, status_document_error, status_wrong_count, status_bad_lines, status_no_memory, status_bad_rule}
use Rattle.sonic_c.specs.Told.{AreNumbersOf, ManyCells, Say, SayBad, at_line, shown_span}
use Rattle.sonic_c.specs.declared.fault.Fault.{Fault}
use Rattle.sonic_c.specs.declared.paths.Paths.{Paths}
use Rattle.sonic_c.specs.declared.span.Span.{Span}

-- the list of what the lines say, under the rule with this number
pub record IsListOf (lines : List ℕ) (number : ℕ) (list : PathList) : Type 0 where
  pub says : Say lines list.paths
  pub rule : rule_number list.rule ≡ number

-- the caller's paths and error
pub record PathsCells : Type 0 where
  pub paths : Paths
  pub error : Fault

-- what a call that keeps the paths of lines comes to, with these cells before and after it
pub record IsPathsCall (lines : List ℕ) (number : ℕ) (before after : PathsCells) (status : ℕ) : Type 0 where
  pub ok : status ≡ status_ok → IsListOf lines number after.paths.list
  pub count : status ≡ status_ok → after.paths.count ≡ length after.paths.list.paths
  pub bad_lines : status ≡ status_bad_lines → (n : ℕ) × SayBad lines n × (after.error ≡ at_line n)
  pub bad_rule : status ≡ status_bad_rule → 2 < number
  -- a number of no rule is told, whatever the lines say
  pub rule_first : 2 < number → status ≡ status_bad_rule
  pub no_other : (status ≡ status_ok) ⊎ (status ≡ status_bad_lines) ⊎ (status ≡ status_bad_rule) ⊎ (status ≡ status_no_memory)
  pub paths_kept : status ≢ status_ok → after.paths ≡ before.paths
  pub error_kept : status ≢ status_bad_lines → after.error ≡ before.error
  pub complete : (paths : List Path) → Say lines paths → number ≤ 2 → (status ≡ status_ok) ⊎ (status ≡ status_no_memory)

-- the array has the spans of the answer of a list, in the order of its paths
pub record TellListSpans (t : List ℕ) (list : PathList) (told : List Span) : Type 0 where
  pub entries : List (Option Found)
  pub answer : IsAnswerBy list.rule t true list.paths (Answer.spans entries)
  pub shown : told ≡ map shown_span entries

-- or the error says what the answer is
pub record TellsListRefused (t : List ℕ) (list : PathList) (told : Fault) : Type 0 where
  pub stop : Stop
  pub answer : IsAnswerBy list.rule t true list.paths (Answer.error stop)
  pub numbers : AreNumbersOf t stop told

-- what a call for a list comes to, with these cells before and after it
pub record IsListCall (t : List ℕ) (list : PathList) (before after : ManyCells) (status : ℕ) : Type 0 where
  pub ok : status ≡ status_ok → TellListSpans t list after.spans
  pub document_error : status ≡ status_document_error → (length list.paths ≡ length before.spans) × TellsListRefused t list after.error
  pub wrong_count : status ≡ status_wrong_count → (length list.paths ≢ length before.spans) × (after.error ≡ at_line (length list.paths))
  pub no_other : (status ≡ status_ok) ⊎ (status ≡ status_document_error) ⊎ (status ≡ status_wrong_count) ⊎ (status ≡ status_no_memory)
  pub spans_kept : status ≢ status_ok → after.spans ≡ before.spans
  pub error_kept : (status ≡ status_ok) ⊎ (status ≡ status_no_memory) → after.error ≡ before.error
  pub complete : length list.paths ≡ length before.spans → IsAnswerableBy list.rule t true list.paths → (status ≡ status_ok) ⊎ (status ≡ status_no_memory)
