-- With which byte a value of each type begins, and why a text is refused that is asked for a value of some types.
use Rattle.std.specs.Prelude.{◌≡◌, ◌⊎◌, ℕ, true, List}
use Rattle.sonic_error.specs.declared.code.ErrorCode.TheVariants.{InvalidJsonValue}
use Rattle.sonic_error.specs.declared.json_type.JsonType.{JsonType}
use Rattle.sonic_error.specs.declared.json_type.JsonType.TheVariants.{Null, Boolean, Number, String, Object, Array}
use Rattle.sonic_find.specs.Documents.{IsInvalid}
use Rattle.sonic_text.specs.Faults.{BeginsNone}
use Rattle.sonic_text.specs.Places.{byte, after_space, stop_at, IsDigit}
use Rattle.sonic_text.specs.declared.stop.Stop.{Stop}
use Rattle.sonic_c.specs.Statuses.{status_document_error, status_wrong_type}
use Rattle.sonic_c.specs.Told.{AreNumbersOf}
use Rattle.sonic_c.specs.declared.begun.Expected.{Expected}
use Rattle.sonic_c.specs.declared.begun.Expected.TheVariants.{Numeral, Text, Container}
use Rattle.sonic_c.specs.declared.fault.Fault.{Fault}

-- a value of this type begins with this byte, and no value of another type does (RFC 8259, section 3)
abbrev pub BeginsWith : JsonType → ℕ → Type 0
BeginsWith Null b = b ≡ 110
BeginsWith Boolean b = (b ≡ 116) ⊎ (b ≡ 102)
BeginsWith Number b = (b ≡ 45) ⊎ IsDigit b
BeginsWith String b = b ≡ 34
BeginsWith Array b = b ≡ 91
BeginsWith Object b = b ≡ 123

-- the first byte of a text after white space
abbrev pub first_byte : List ℕ → ℕ
first_byte t = byte t (after_space t 0)

-- a value of this type begins the text
abbrev pub Begins : List ℕ → JsonType → Type 0
Begins t kind = BeginsWith kind (first_byte t)

-- why no value begins it
abbrev pub no_begin : List ℕ → Stop
no_begin t = stop_at t (after_space t 0) InvalidJsonValue

-- the type is one of those that are expected
abbrev pub IsExpected : Expected → JsonType → Type 0
IsExpected Numeral kind = kind ≡ Number
IsExpected Text kind = kind ≡ String
IsExpected Container kind = (kind ≡ Array) ⊎ (kind ≡ Object)

-- no value of an expected type begins a text, and that is told: none does, or one of another type
pub data IsNotBegun (expected : Expected) (t : List ℕ) (before after : Fault) (status : ℕ) : Type 0 where
  no_value : BeginsNone (first_byte t) → status ≡ status_document_error → AreNumbersOf t (no_begin t) after → IsNotBegun expected t before after status
  other_type : (kind : JsonType) → Begins t kind → ¬ IsExpected expected kind → status ≡ status_wrong_type → after ≡ before → IsNotBegun expected t before after status

-- a text is refused: no value of an expected type begins it, or one does that is not the whole text, in UTF-8, but for white space round it
pub data IsTextRefused (expected : Expected) (t : List ℕ) (before after : Fault) (status : ℕ) : Type 0 where
  not_begun : IsNotBegun expected t before after status → IsTextRefused expected t before after status
  invalid : (kind : JsonType) (s : Stop) → Begins t kind → IsExpected expected kind → IsInvalid t true s → status ≡ status_document_error → AreNumbersOf t s after
      → IsTextRefused expected t before after status
