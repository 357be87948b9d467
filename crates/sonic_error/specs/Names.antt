-- The words for families of errors, and the names of codes, as reports write them.
use Rattle.std.specs.Prelude.{ℕ, List, codes}
use Rattle.sonic_error.specs.declared.code.Category.{Category}
use Rattle.sonic_error.specs.declared.code.Category.TheVariants.{Io as Outside, Syntax, TypeUnmatched, NotFound, Eof, Memory}
use Rattle.sonic_error.specs.declared.code.ErrorCode.{ErrorCode}
use Rattle.sonic_error.specs.declared.code.ErrorCode.TheVariants.{Message, Io, EofWhileParsing, ExpectedColon, ExpectedArrayCommaOrEnd, ExpectedObjectCommaOrEnd, InvalidLiteral, InvalidJsonValue, ExpectedObjectStart, ExpectedArrayStart, InvalidEscape, InvalidNumber, NumberOutOfRange, InvalidUnicodeCodePoint, InvalidUTF8, ControlCharacterWhileParsingString, ExpectObjectKeyOrEnd, TrailingComma, TrailingCharacters, RecursionLimitExceeded, GetInEmptyObject, GetUnknownKeyInObject, GetInEmptyArray, GetIndexOutOfArray, UnexpectedVisitType, InvalidSurrogateUnicodeCodePoint, FloatMustBeFinite, ExpectedNumericKey, ExpectedQuote, SerExpectKeyIsStrOrNum, NoMemory, DuplicateKey}

-- the word for a family of errors
abbrev pub word_of_category : Category → List ℕ
word_of_category Outside = codes "io"
word_of_category Syntax = codes "syntax"
word_of_category TypeUnmatched = codes "type"
word_of_category NotFound = codes "not-found"
word_of_category Eof = codes "eof"
word_of_category Memory = codes "memory"

-- the name of an error's code
abbrev pub name_of_code : ErrorCode → List ℕ
name_of_code (Message note) = codes "Message"
name_of_code (Io kind) = codes "Io"
name_of_code EofWhileParsing = codes "EofWhileParsing"
name_of_code ExpectedColon = codes "ExpectedColon"
name_of_code ExpectedArrayCommaOrEnd = codes "ExpectedArrayCommaOrEnd"
name_of_code ExpectedObjectCommaOrEnd = codes "ExpectedObjectCommaOrEnd"
name_of_code InvalidLiteral = codes "InvalidLiteral"
name_of_code InvalidJsonValue = codes "InvalidJsonValue"
name_of_code ExpectedObjectStart = codes "ExpectedObjectStart"
name_of_code ExpectedArrayStart = codes "ExpectedArrayStart"
name_of_code InvalidEscape = codes "InvalidEscape"
name_of_code InvalidNumber = codes "InvalidNumber"
name_of_code NumberOutOfRange = codes "NumberOutOfRange"
name_of_code InvalidUnicodeCodePoint = codes "InvalidUnicodeCodePoint"
name_of_code InvalidUTF8 = codes "InvalidUTF8"
name_of_code ControlCharacterWhileParsingString = codes "ControlCharacterWhileParsingString"
name_of_code ExpectObjectKeyOrEnd = codes "ExpectObjectKeyOrEnd"
name_of_code TrailingComma = codes "TrailingComma"
name_of_code TrailingCharacters = codes "TrailingCharacters"
name_of_code RecursionLimitExceeded = codes "RecursionLimitExceeded"
name_of_code GetInEmptyObject = codes "GetInEmptyObject"
name_of_code GetUnknownKeyInObject = codes "GetUnknownKeyInObject"
name_of_code GetInEmptyArray = codes "GetInEmptyArray"
name_of_code GetIndexOutOfArray = codes "GetIndexOutOfArray"
name_of_code UnexpectedVisitType = codes "UnexpectedVisitType"
name_of_code InvalidSurrogateUnicodeCodePoint = codes "InvalidSurrogateUnicodeCodePoint"
name_of_code FloatMustBeFinite = codes "FloatMustBeFinite"
name_of_code ExpectedNumericKey = codes "ExpectedNumericKey"
name_of_code ExpectedQuote = codes "ExpectedQuote"
name_of_code SerExpectKeyIsStrOrNum = codes "SerExpectKeyIsStrOrNum"
name_of_code NoMemory = codes "NoMemory"
name_of_code DuplicateKey = codes "DuplicateKey"
