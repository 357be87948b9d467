-- The numbers of the codes and of errors, and what is told of a number.
use Rattle.std.specs.Prelude.{◌≡◌, ◌≢◌, ◌⊎◌, ℕ, ◌+◌, ◌*◌, List, ◌++◌, length, take, drop}
use Rattle.sonic_error.specs.Kinds.{number_of}
use Rattle.sonic_error.specs.Texts.{code_text}
use Rattle.sonic_error.specs.declared.json_type.Note.TheVariants.{Mismatch, SchemaNotObject}
use Rattle.sonic_error.specs.declared.json_type.Wanted.{Wanted}
use Rattle.sonic_error.specs.declared.json_type.Wanted.TheVariants.{Object as WantedObject, Array as WantedArray, Number as WantedNumber}
use Rattle.sonic_error.specs.declared.code.ErrorCode.{ErrorCode}
use Rattle.sonic_error.specs.declared.code.ErrorCode.TheVariants.{Message, Io, EofWhileParsing, ExpectedColon, ExpectedArrayCommaOrEnd, ExpectedObjectCommaOrEnd, InvalidLiteral, InvalidJsonValue, ExpectedObjectStart, ExpectedArrayStart, InvalidEscape, InvalidNumber, NumberOutOfRange, InvalidUnicodeCodePoint, InvalidUTF8, ControlCharacterWhileParsingString, ExpectObjectKeyOrEnd, TrailingComma, TrailingCharacters, RecursionLimitExceeded, GetInEmptyObject, GetUnknownKeyInObject, GetInEmptyArray, GetIndexOutOfArray, UnexpectedVisitType, InvalidSurrogateUnicodeCodePoint, FloatMustBeFinite, ExpectedNumericKey, ExpectedQuote, SerExpectKeyIsStrOrNum, NoMemory, DuplicateKey}

-- the number that stands for what was wanted
abbrev pub wanted_number : Wanted → ℕ
wanted_number WantedObject = 0
wanted_number WantedArray = 1
wanted_number WantedNumber = 2

-- the number that stands for a code: past 99 for a value of another type than was wanted, 1 for a schema that is no object, 2 for a failed reading or
-- writing, and from 3 on in the order in which the other codes are declared
abbrev pub code_number : ErrorCode → ℕ
code_number (Message (Mismatch found wanted)) = 100 + 10 * number_of found + wanted_number wanted
code_number (Message SchemaNotObject) = 1
code_number (Io _) = 2
code_number EofWhileParsing = 3
code_number ExpectedColon = 4
code_number ExpectedArrayCommaOrEnd = 5
code_number ExpectedObjectCommaOrEnd = 6
code_number InvalidLiteral = 7
code_number InvalidJsonValue = 8
code_number ExpectedObjectStart = 9
code_number ExpectedArrayStart = 10
code_number InvalidEscape = 11
code_number InvalidNumber = 12
code_number NumberOutOfRange = 13
code_number InvalidUnicodeCodePoint = 14
code_number InvalidUTF8 = 15
code_number ControlCharacterWhileParsingString = 16
code_number ExpectObjectKeyOrEnd = 17
code_number TrailingComma = 18
code_number TrailingCharacters = 19
code_number RecursionLimitExceeded = 20
code_number GetInEmptyObject = 21
code_number GetUnknownKeyInObject = 22
code_number GetInEmptyArray = 23
code_number GetIndexOutOfArray = 24
code_number UnexpectedVisitType = 25
code_number InvalidSurrogateUnicodeCodePoint = 26
code_number FloatMustBeFinite = 27
code_number ExpectedNumericKey = 28
code_number ExpectedQuote = 29
code_number SerExpectKeyIsStrOrNum = 30
code_number NoMemory = 31
code_number DuplicateKey = 32

-- the room with as much of the text, or as many of the entries, as it takes at its start, and what it had after that
abbrev pub placed : {A : Type 0} → List A → List A → List A
placed text room = take (length room) text ++ drop (length text) room

-- a call tells nothing
abbrev pub IsUntold : List ℕ → List ℕ → ℕ → Type 0
IsUntold before after result = (result ≡ 0) × (after ≡ before)

-- a call tells the text of this code, unless memory ran out
abbrev pub TellsText : ErrorCode → List ℕ → List ℕ → ℕ → Type 0
TellsText code before after result = IsUntold before after result ⊎ (result ≡ length (code_text code)) × (after ≡ placed (code_text code) before)

-- what a call for the text of a number comes to, with this in the room before and after it
pub record IsTextCall (number : ℕ) (before after : List ℕ) (result : ℕ) : Type 0 where
  pub text : (code : ErrorCode) → code_number code ≡ number → TellsText code before after result
  pub no_code : ((code : ErrorCode) → code_number code ≢ number) → IsUntold before after result
