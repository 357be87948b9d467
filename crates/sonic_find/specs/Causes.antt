-- When a list of paths is answered with spans, and what an error says otherwise.
use Rattle.std.specs.Prelude.{◌≡◌, ℕ, Bool, List, [], ◌∷◌, Some, take, IsTrue}
use Rattle.std.specs.Str.{IsUtf8}
use Rattle.sonic_error.specs.declared.error.Error.{Error}
use Rattle.sonic_error.specs.declared.code.ErrorCode.TheVariants.{NoMemory}
use Rattle.sonic_error.specs.Errors.{IsErrorAt, IsPlainError}
use Rattle.sonic_text.specs.declared.stop.Stop.{Stop}
use Rattle.sonic_text.specs.Paths.{Path}
use Rattle.sonic_find.specs.Answers.{Answer, IsAnswer, IsAnswerBy, IsGetAnswer, AllLeadBy, NoneFails, NoneCut, IsReach}
use Rattle.sonic_find.specs.Paths.{Outcome}
use Rattle.sonic_pointer.specs.declared.rule.KeyRule.{KeyRule}
use Rattle.sonic_pointer.specs.declared.rule.KeyRule.TheVariants.{First}

-- under a rule each path finds a value or lacks its key, the text is whole if one does, and it is UTF-8 as far as it is needed
pub data IsAnswerableBy (rule : KeyRule) (t : List ℕ) (is_bytes : Bool) (paths : List Path) : Type 0 where
  nothing_asked : paths ≡ [] → IsAnswerableBy rule t is_bytes paths
  all_reported : (os : List Outcome) (r : ℕ) → AllLeadBy rule t paths os → NoneFails os → NoneCut os → IsReach t os r
      → (IsTrue is_bytes → IsUtf8 (take r t)) → IsAnswerableBy rule t is_bytes paths

-- and by first equal keys
abbrev pub IsAnswerable : List ℕ → Bool → List Path → Type 0
IsAnswerable t is_bytes paths = IsAnswerableBy First t is_bytes paths

-- there is no memory, or the error is the answer of the paths under a rule
pub data IsRefusalBy (rule : KeyRule) (t : List ℕ) (is_bytes : Bool) (paths : List Path) (e : Error) : Type 0 where
  out_of_memory : IsPlainError e NoMemory → IsRefusalBy rule t is_bytes paths e
  answered : (s : Stop) → IsAnswerBy rule t is_bytes paths (Answer.error s) → IsErrorAt e s.code t s.place → IsRefusalBy rule t is_bytes paths e

-- and by first equal keys
abbrev pub IsRefusal : List ℕ → Bool → List Path → Error → Type 0
IsRefusal t is_bytes paths e = IsRefusalBy First t is_bytes paths e

-- the error is the answer of the paths
pub record IsAnswerError (t : List ℕ) (is_bytes : Bool) (paths : List Path) (e : Error) : Type 0 where
  pub stop : Stop
  pub answer : IsAnswer t is_bytes paths (Answer.error stop)
  pub error : IsErrorAt e stop.code t stop.place

-- the error is the answer of the path
pub record IsGetError (t : List ℕ) (is_bytes : Bool) (path : Path) (e : Error) : Type 0 where
  pub stop : Stop
  pub answer : IsGetAnswer t is_bytes path (Answer.error stop)
  pub error : IsErrorAt e stop.code t stop.place

-- or there is no memory
pub data IsGetRefusal (t : List ℕ) (is_bytes : Bool) (path : Path) (e : Error) : Type 0 where
  no_memory : IsPlainError e NoMemory → IsGetRefusal t is_bytes path e
  refused : IsGetError t is_bytes path e → IsGetRefusal t is_bytes path e

-- the path finds a value, up to whose end the text is UTF-8
pub record IsGettable (t : List ℕ) (is_bytes : Bool) (path : Path) : Type 0 where
  pub start : ℕ
  pub end : ℕ
  pub answer : IsGetAnswer t is_bytes path (Answer.spans (Some (start, end) ∷ []))
