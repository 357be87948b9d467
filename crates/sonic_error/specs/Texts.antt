-- The words of each error, as they are printed.
use Rattle.std.specs.Prelude.{ℕ, List, ◌++◌, codes, replicate}
use Rattle.std.specs.Fmt.{decimal}
use Rattle.std.specs.Str.Lossy.{utf8_lossy, utf8_valid_len}
use Rattle.sonic_error.specs.declared.code.ErrorCode.{ErrorCode}
use Rattle.sonic_error.specs.declared.code.ErrorCode.TheVariants.{Message, Io, EofWhileParsing, ExpectedColon, ExpectedArrayCommaOrEnd, ExpectedObjectCommaOrEnd, InvalidLiteral, InvalidJsonValue, ExpectedObjectStart, ExpectedArrayStart, InvalidEscape, InvalidNumber, NumberOutOfRange, InvalidUnicodeCodePoint, InvalidUTF8, ControlCharacterWhileParsingString, ExpectObjectKeyOrEnd, TrailingComma, TrailingCharacters, RecursionLimitExceeded, GetInEmptyObject, GetUnknownKeyInObject, GetInEmptyArray, GetIndexOutOfArray, UnexpectedVisitType, InvalidSurrogateUnicodeCodePoint, FloatMustBeFinite, ExpectedNumericKey, ExpectedQuote, SerExpectKeyIsStrOrNum, NoMemory, DuplicateKey}
use Rattle.sonic_error.specs.declared.json_type.JsonType.{JsonType}
use Rattle.sonic_error.specs.declared.json_type.JsonType.TheVariants.{Null, Boolean, Number, String, Object, Array}
use Rattle.sonic_error.specs.declared.json_type.Note.{Note}
use Rattle.sonic_error.specs.declared.json_type.Note.TheVariants.{Mismatch, SchemaNotObject}
use Rattle.sonic_error.specs.declared.json_type.Wanted.{Wanted}
use Rattle.sonic_error.specs.declared.json_type.Wanted.TheVariants.{Object as WantedObject, Array as WantedArray, Number as WantedNumber}

-- the word for the kind that was found
abbrev pub found_text : JsonType → List ℕ
found_text Null = codes "null"
found_text Boolean = codes "boolean"
found_text Number = codes "number"
found_text String = codes "string"
found_text Object = codes "map"
found_text Array = codes "sequence"

-- the words for what the caller wanted
abbrev pub wanted_text : Wanted → List ℕ
wanted_text WantedObject = codes "a JSON object"
wanted_text WantedArray = codes "a JSON array"
wanted_text WantedNumber = codes "a JSON number"

-- why valid JSON doesn't fit, in words
abbrev pub note_text : Note → List ℕ
note_text (Mismatch found wanted) = codes "invalid type: " ++ found_text found ++ codes ", expected " ++ wanted_text wanted
note_text SchemaNotObject = codes "The schema must be an object"

-- what is wrong, in words
abbrev pub code_text : ErrorCode → List ℕ
code_text (Message note) = note_text note
code_text (Io kind) = codes "io error while serializing or deserializing"
code_text EofWhileParsing = codes "EOF while parsing"
code_text ExpectedColon = codes "Expected this character to be a ':' while parsing"
code_text ExpectedArrayCommaOrEnd = codes "Expected this character to be either a ',' or a ']' while parsing"
code_text ExpectedObjectCommaOrEnd = codes "Expected this character to be either a ',' or a '}' while parsing"
code_text InvalidLiteral = codes "Invalid literal (`true`, `false`, or a `null`) while parsing"
code_text InvalidJsonValue = codes "Invalid JSON value"
code_text ExpectedObjectStart = codes "Expected this character to be '{'"
code_text ExpectedArrayStart = codes "Expected this character to be '['"
code_text InvalidEscape = codes "Invalid escape chars"
code_text InvalidNumber = codes "Invalid number"
code_text NumberOutOfRange = codes "Number is bigger than the maximum value of its type"
code_text InvalidUnicodeCodePoint = codes "Invalid unicode code point"
code_text InvalidUTF8 = codes "Invalid UTF-8 characters in json"
code_text ControlCharacterWhileParsingString = codes "Control character found while parsing a string"
code_text ExpectObjectKeyOrEnd = codes "Expected this character to be '\"' or '}'"
code_text TrailingComma = codes "JSON has a comma after the last value in an array or object"
code_text TrailingCharacters = codes "JSON has non-whitespace trailing characters after the value"
code_text RecursionLimitExceeded = codes "Encountered nesting of JSON maps and arrays more than 255 layers deep"
code_text GetInEmptyObject = codes "Get value from an empty object"
code_text GetUnknownKeyInObject = codes "Get unknown key from the object"
code_text GetInEmptyArray = codes "Get value from an empty array"
code_text GetIndexOutOfArray = codes "Get index out of the array"
code_text UnexpectedVisitType = codes "Unexpected visited type"
code_text InvalidSurrogateUnicodeCodePoint = codes "Invalid surrogate Unicode code point"
code_text FloatMustBeFinite = codes "Float number must be finite, not be Infinity or NaN"
code_text ExpectedNumericKey = codes "Expect a numeric key in Value"
code_text ExpectedQuote = codes "Expect a quote"
code_text SerExpectKeyIsStrOrNum = codes "Expected the key to be string/bool/number when serializing map"
code_text NoMemory = codes "out of memory"
code_text DuplicateKey = codes "Duplicate key in the object"

-- how many bytes at the start are whole characters of UTF-8 (`Utf8Error::valid_up_to`)
abbrev pub valid_up_to : List ℕ → ℕ
valid_up_to bytes = utf8_valid_len bytes

-- the bytes as text, with U+FFFD for what isn't UTF-8 (`String::from_utf8_lossy`)
abbrev pub lossy : List ℕ → List ℕ
lossy bytes = utf8_lossy bytes

-- so many dots
abbrev pub dots : ℕ → List ℕ
dots count = replicate count 46

-- a line that points at one byte of the line above it: dots, and `^` where that byte is
abbrev pub mask_text : ℕ → ℕ → List ℕ
mask_text before after = dots before ++ codes "^" ++ dots after

-- where the text is wrong: the line, the column, the bytes round the place, and the mask below them
abbrev pub position_text : ℕ → ℕ → List ℕ → List ℕ → List ℕ
position_text line column fragment mask =
    codes " at line " ++ decimal line ++ codes " column " ++ decimal column
    ++ codes "\n\n\t" ++ lossy fragment ++ codes "\n\t" ++ mask ++ codes "\n"
