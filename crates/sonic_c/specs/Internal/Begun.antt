-- Why a text is refused, before it is told.
use Rattle.std.specs.Prelude.{◌≡◌, ◌≤◌, ◌<◌, ℕ, true, List, length}
use Rattle.sonic_error.specs.declared.code.ErrorCode.TheVariants.{TrailingCharacters}
use Rattle.sonic_error.specs.declared.json_type.JsonType.{JsonType}
use Rattle.sonic_find.specs.Documents.{IsInvalid}
use Rattle.sonic_text.specs.Faults.{BeginsNone}
use Rattle.sonic_text.specs.Places.{after_space}
use Rattle.sonic_text.specs.declared.stop.Stop.{Stop}
use Rattle.sonic_c.specs.Begun.{first_byte, Begins, no_begin, IsExpected}
use Rattle.sonic_c.specs.Statuses.{status_document_error, status_wrong_type}
use Rattle.sonic_c.specs.Told.{AreNumbersOf}
use Rattle.sonic_c.specs.declared.begun.Expected.{Expected}
use Rattle.sonic_c.specs.declared.begun.Refusal.{Refusal}
use Rattle.sonic_c.specs.declared.begun.Refusal.TheVariants.{WrongType, At}
use Rattle.sonic_c.specs.declared.fault.Fault.{Fault}

-- a value of an expected type begins a text
abbrev pub HasBegun : Expected → List ℕ → Type 0
HasBegun expected t = (kind : JsonType) × Begins t kind × IsExpected expected kind

-- why none does
pub data Misses (expected : Expected) (t : List ℕ) (refusal : Refusal) : Type 0 where
  begins_none : BeginsNone (first_byte t) → refusal ≡ At (no_begin t) → Misses expected t refusal
  begins_other : (kind : JsonType) → Begins t kind → ¬ IsExpected expected kind → refusal ≡ WrongType → Misses expected t refusal

-- why a text is refused that is asked for a value of an expected type
pub data RefusesText (expected : Expected) (t : List ℕ) (refusal : Refusal) : Type 0 where
  misses : Misses expected t refusal → RefusesText expected t refusal
  is_invalid : (s : Stop) → HasBegun expected t → IsInvalid t true s → refusal ≡ At s → RefusesText expected t refusal

-- an error is at a place of the text
abbrev pub IsStopIn : List ℕ → Refusal → Type 0
IsStopIn t WrongType = Unit {0}
IsStopIn t (At s) = s.place ≤ length t

-- it is told
abbrev pub TellsRefusal : List ℕ → Refusal → Fault → Fault → ℕ → Type 0
TellsRefusal t WrongType before after status = (status ≡ status_wrong_type) × (after ≡ before)
TellsRefusal t (At s) before after status = (status ≡ status_document_error) × AreNumbersOf t s after

-- something follows the value that ends at e
abbrev pub IsTrailing : List ℕ → ℕ → Stop → Type 0
IsTrailing t e s = (after_space t e < length t) × (s ≡ record { place = after_space t e; code = TrailingCharacters })
