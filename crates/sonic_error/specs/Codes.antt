use Rattle.sonic_error.specs.declared.code.Category.{Category}
use Rattle.sonic_error.specs.declared.code.Category.TheVariants.{Io as Outside, Syntax, TypeUnmatched, NotFound, Eof, Memory}
use Rattle.sonic_error.specs.declared.code.ErrorCode.{ErrorCode}
use Rattle.sonic_error.specs.declared.code.ErrorCode.TheVariants.{Message, Io, EofWhileParsing, ExpectedColon, ExpectedArrayCommaOrEnd, ExpectedObjectCommaOrEnd, InvalidLiteral, InvalidJsonValue, ExpectedObjectStart, ExpectedArrayStart, InvalidEscape, InvalidNumber, NumberOutOfRange, InvalidUnicodeCodePoint, InvalidUTF8, ControlCharacterWhileParsingString, ExpectObjectKeyOrEnd, TrailingComma, TrailingCharacters, RecursionLimitExceeded, GetInEmptyObject, GetUnknownKeyInObject, GetInEmptyArray, GetIndexOutOfArray, UnexpectedVisitType, InvalidSurrogateUnicodeCodePoint, FloatMustBeFinite, ExpectedNumericKey, ExpectedQuote, SerExpectKeyIsStrOrNum, NoMemory, DuplicateKey}

-- the family that an error's code belongs to
abbrev pub category_of : ErrorCode → Category
category_of (Message note) = TypeUnmatched
category_of (Io kind) = Outside
category_of EofWhileParsing = Eof
category_of ExpectedColon = Syntax
category_of ExpectedArrayCommaOrEnd = Syntax
category_of ExpectedObjectCommaOrEnd = Syntax
category_of InvalidLiteral = Syntax
category_of InvalidJsonValue = Syntax
category_of ExpectedObjectStart = Syntax
category_of ExpectedArrayStart = Syntax
category_of InvalidEscape = Syntax
category_of InvalidNumber = Syntax
category_of NumberOutOfRange = Syntax
category_of InvalidUnicodeCodePoint = Syntax
category_of InvalidUTF8 = Syntax
category_of ControlCharacterWhileParsingString = Syntax
category_of ExpectObjectKeyOrEnd = Syntax
category_of TrailingComma = Syntax
category_of TrailingCharacters = Syntax
category_of RecursionLimitExceeded = Syntax
category_of GetInEmptyObject = NotFound
category_of GetUnknownKeyInObject = NotFound
category_of GetInEmptyArray = NotFound
category_of GetIndexOutOfArray = NotFound
category_of UnexpectedVisitType = TypeUnmatched
category_of InvalidSurrogateUnicodeCodePoint = Syntax
category_of FloatMustBeFinite = Syntax
category_of ExpectedNumericKey = Syntax
category_of ExpectedQuote = Syntax
category_of SerExpectKeyIsStrOrNum = Syntax
category_of NoMemory = Memory
category_of DuplicateKey = Syntax
