-- Numbers that keep their text (RFC 8259, section 6), and the documents that are one.
use Rattle.std.specs.Prelude.{◌≡◌, ◌≢◌, ℕ, ◌-◌, false, List, length, slice_range}
use Rattle.sonic_error.specs.declared.code.ErrorCode.TheVariants.{InvalidNumber, Message, NoMemory}
use Rattle.sonic_error.specs.declared.error.Error.{Error}
use Rattle.sonic_error.specs.declared.json_type.Note.TheVariants.{Mismatch}
use Rattle.sonic_error.specs.declared.json_type.Wanted.TheVariants.{Number}
use Rattle.sonic_error.specs.Errors.{IsErrorAt, IsPlainError}
use Rattle.sonic_text.specs.declared.stop.Stop.{Stop}
use Rattle.sonic_text.specs.Numbers.{IsNumber}
use Rattle.sonic_text.specs.Places.{byte}
use Rattle.sonic_text.specs.Strings.{contents}
use Rattle.sonic_text.specs.Values.{type_at}
use Rattle.sonic_find.specs.Documents.{IsAlone, IsInvalid}

-- the whole text is a number
abbrev pub IsNumberText : List ℕ → Type 0
IsNumberText n = IsNumber n 0 (length n)

-- the document is this number, or a string that has its text between the quotes
pub data IsNumberDocument (t n : List ℕ) : Type 0 where
  a_number : {i j : ℕ} → IsAlone t i j → n ≡ slice_range t i j → IsNumberText n → IsNumberDocument t n
  a_quoted_number : {i j : ℕ} → IsAlone t i j → byte t i ≡ 34 → n ≡ contents t i j → IsNumberText n → IsNumberDocument t n

-- why a text is none: as it is no document, or as the document is of another type, at its last byte, or another string, at its first quote
pub data IsNoNumber (t : List ℕ) (s : Stop) : Type 0 where
  no_document : IsInvalid t false s → IsNoNumber t s
  other_type : {i j : ℕ} → IsAlone t i j → byte t i ≢ 34 → ¬ IsNumberText (slice_range t i j)
      → s ≡ record { place = j - 1; code = Message (Mismatch (type_at t i) Number) } → IsNoNumber t s
  other_string : {i j : ℕ} → IsAlone t i j → byte t i ≡ 34 → ¬ IsNumberText (contents t i j) → s ≡ record { place = i; code = InvalidNumber } → IsNoNumber t s

-- there is no memory, or the error says why the text is no number
pub data IsNumberError (t : List ℕ) (e : Error) : Type 0 where
  out_of_memory : IsPlainError e NoMemory → IsNumberError t e
  no_number : (s : Stop) → IsNoNumber t s → IsErrorAt e s.code t s.place → IsNumberError t e
