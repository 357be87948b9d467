-- What paths come to in a text that is known to start with a value in UTF-8.
use Rattle.std.proofs.Common.{◌≡◌, refl, Bool, List, [], ◌∷◌, length, ℕ, ◌≤◌}
use Rattle.std.specs.Prelude.{Some, Err}
use Rattle.sonic_error.specs.declared.error.Error.{Error}
use Rattle.sonic_find.proofs.AnswerLemmas.Agree.{utf8_found}
use Rattle.sonic_find.proofs.AnswerLemmas.Cause.{found_before}
use Rattle.sonic_find.proofs.AnswerLemmas.Walk.{found_value}
use Rattle.sonic_find.proofs.GetLemmas.{found_alone, dead_answer, dead_within, never_error}
use Rattle.sonic_find.proofs.Utf8Lemmas.{utf8_of_span}
use Rattle.sonic_find.specs.Answers.{spans, IsGetAnswer}
use Rattle.sonic_find.specs.Causes.{IsGetError}
use Rattle.sonic_find.specs.DeadEnds.{IsDeadEnd}
use Rattle.sonic_find.specs.Paths.{found, Leads, LeadsUnder}
use Rattle.sonic_find.specs.Parts.{IsPart}
use Rattle.sonic_find.specs.Spans.{IsSureFinding}
use Rattle.sonic_parser.specs.Faults.{IsStopFor, IsErrorOf}
use Rattle.sonic_parser.proofs.FaultLemmas.{stop_weaker}
use Rattle.sonic_parser.specs.declared.fault.Fault.{Fault}
use Rattle.sonic_parser.specs.declared.fault.Fault.TheVariants.{OutOfMemory, At}
use Rattle.sonic_text.proofs.Within.{value_within}
use Rattle.sonic_text.specs.Documents.{StartsWithUtf8Value}
use Rattle.sonic_text.specs.Paths.{Path}
use Rattle.sonic_text.specs.Places.{after_space}
use Rattle.sonic_pointer.specs.declared.rule.KeyRule.{KeyRule}
use Rattle.sonic_pointer.specs.declared.rule.KeyRule.TheVariants.{First}

-- what a path finds in the first value is a part of the text
pub found_part : {t : List ℕ} {i j : ℕ} {rule : KeyRule} (path : Path) → StartsWithUtf8Value t → LeadsUnder rule t path (found i j) → IsPart t i j
found_part path x l =
    let value = found_value path l in
    let within = value_within value in
    record { value = value; inside = within; utf8 = utf8_of_span x.end x.utf8 value (found_before path l x.root) within }

-- and the answer of the path
pub found_answer : {t : List ℕ} {is_bytes : Bool} {i j : ℕ} (path : Path) → StartsWithUtf8Value t → Leads t path (found i j)
    → IsGetAnswer t is_bytes path (spans (Some (i, j) ∷ []))
found_answer path x l = found_alone l (λ b. utf8_found path x l)

-- a dead end is within the text
pub sure_within : (t : List ℕ) (path : Path) (fault : Fault) → IsStopFor (IsDeadEnd First t (after_space t 0) path) fault → IsStopFor (λ s. s.place ≤ length t) fault
sure_within t path fault dead = stop_weaker fault (λ s f. dead_within _ f) dead

-- and its error is the answer
dead_error : {t : List ℕ} {is_bytes : Bool} {path : Path} {e : Error} (fault : Fault) → (fault ≡ OutOfMemory → ⊥)
    → IsStopFor (IsDeadEnd First t (after_space t 0) path) fault → IsErrorOf t fault e → IsGetError t is_bytes path e
dead_error OutOfMemory sure dead e = absurd (sure refl)
dead_error (At s) sure dead e = record { stop = s; answer = dead_answer dead; error = e }

-- which alone refuses
pub sure_error : {t : List ℕ} {is_bytes : Bool} {path : Path} {e : Error} (fault : Fault) → (fault ≡ OutOfMemory → ⊥)
    → IsStopFor (IsDeadEnd First t (after_space t 0) path) fault → IsErrorOf t fault e → IsSureFinding t is_bytes path (Err e)
sure_error fault sure dead e =
    let error = dead_error fault sure dead e in
    record { ok = tt; err = error; complete = λ can. absurd (never_error can error) }
