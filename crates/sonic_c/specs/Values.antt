-- What the calls that read one value come to, in the caller's memory.
use Rattle.std.specs.Prelude.{◌≡◌, ◌≢◌, ℕ, ◌<◌, ◌^◌, List, length, slice_range, FitsSigned, ℤ}
use Rattle.std.specs.Int.{w64}
use Rattle.std.specs.Str.{IsUtf8}
use Rattle.std.specs.Str.Parse.{digits_value, signed_digits_value}
use Rattle.sonic_error.specs.Kinds.{number_of}
use Rattle.sonic_error.specs.declared.json_type.JsonType.{JsonType}
use Rattle.sonic_find.specs.Documents.{IsAlone}
use Rattle.sonic_text.specs.Faults.{BeginsNone}
use Rattle.sonic_text.specs.Numbers.{IsNumber, IsWholeText}
use Rattle.sonic_text.specs.Places.{byte}
use Rattle.sonic_text.specs.Strings.{strict, IsString, IsEscapedString}
use Rattle.sonic_c.specs.Begun.{first_byte, Begins, no_begin, IsTextRefused}
use Rattle.sonic_c.specs.Codes.{placed}
use Rattle.sonic_c.specs.Statuses.{status_ok, status_document_error, status_no_memory, status_no_integer}
use Rattle.sonic_c.specs.Told.{AreNumbersOf}
use Rattle.sonic_c.specs.declared.begun.Expected.TheVariants.{Numeral, Text}
use Rattle.sonic_c.specs.declared.fault.Fault.{Fault}

-- the caller's value and error
pub record ValueCells (A : Type 0) : Type 0 where
  pub value : A
  pub error : Fault

-- what a call for the type of a value comes to, with these cells before and after it: the number of the type, or that no value begins the text
pub data IsTypeCall (t : List ℕ) (before after : ValueCells ℕ) (status : ℕ) : Type 0 where
  type_told : (kind : JsonType) → Begins t kind → status ≡ status_ok → after ≡ record before { value = number_of kind } → IsTypeCall t before after status
  no_value : BeginsNone (first_byte t) → status ≡ status_document_error → AreNumbersOf t (no_begin t) after.error → after.value ≡ before.value
      → IsTypeCall t before after status

-- the text is a number of these bytes with nothing but white space round it
pub record IsNumberAlone (t b : List ℕ) : Type 0 where
  pub start : ℕ
  pub end : ℕ
  pub alone : IsAlone t start end
  pub number : IsNumber t start end
  pub bytes : b ≡ slice_range t start end

-- a number of these bytes is an integer without a sign that 64 bits hold
abbrev pub IsUnsignedInteger : List ℕ → Type 0
IsUnsignedInteger b = IsWholeText b × (byte b 0 ≢ 45) × (digits_value 10 b < 2 ^ 64)

-- and one that they hold with a sign
abbrev pub IsSignedInteger : List ℕ → Type 0
IsSignedInteger b = IsWholeText b × FitsSigned w64 (signed_digits_value 10 b)

-- what a call for the integer that a number is comes to, with these cells before and after it, where these integers are asked for
pub data IsIntegerCall {A : Type 0} (Is : List ℕ → Type 0) (value_of : List ℕ → A) (t : List ℕ) (before after : ValueCells A) (status : ℕ) : Type 0 where
  integer_told : (b : List ℕ) → IsNumberAlone t b → Is b → status ≡ status_ok → after ≡ record before { value = value_of b }
      → IsIntegerCall Is value_of t before after status
  no_integer : (b : List ℕ) → IsNumberAlone t b → ¬ Is b → status ≡ status_no_integer → after ≡ before → IsIntegerCall Is value_of t before after status
  number_refused : IsTextRefused Numeral t before.error after.error status → after.value ≡ before.value → IsIntegerCall Is value_of t before after status

-- of one without a sign
abbrev pub IsU64Call : List ℕ → ValueCells ℕ → ValueCells ℕ → ℕ → Type 0
IsU64Call t before after status = IsIntegerCall IsUnsignedInteger (digits_value 10) t before after status

-- and of one with a sign
abbrev pub IsI64Call : List ℕ → ValueCells ℤ → ValueCells ℤ → ℕ → Type 0
IsI64Call t before after status = IsIntegerCall IsSignedInteger (signed_digits_value 10) t before after status

-- the text is a string that denotes these bytes, in UTF-8, with nothing but white space round it
pub record IsStringAlone (t b : List ℕ) : Type 0 where
  pub start : ℕ
  pub end : ℕ
  pub alone : IsAlone t start end
  pub string : IsString strict t start end b
  pub utf8 : IsUtf8 t

-- the caller's room, the length that is told and the error
pub record TextCells : Type 0 where
  pub room : List ℕ
  pub wanted : ℕ
  pub error : Fault

-- what a call for the text of a string comes to, with these cells before and after it
pub data IsStringCall (t : List ℕ) (before after : TextCells) (status : ℕ) : Type 0 where
  text_told : (b : List ℕ) → IsStringAlone t b → status ≡ status_ok → after ≡ record before { room = placed b before.room; wanted = length b }
      → IsStringCall t before after status
  text_unknown : (i j : ℕ) → IsAlone t i j → IsEscapedString t i j → status ≡ status_no_memory → after ≡ before → IsStringCall t before after status
  string_refused : IsTextRefused Text t before.error after.error status → after.room ≡ before.room → after.wanted ≡ before.wanted → IsStringCall t before after status
