-- What an error says, and what it shows of a text.
use Rattle.std.specs.Prelude.{◌≡◌, ℕ, ◌-◌, Option, Some, None, List, [], ◌++◌, slice_range, take}
use Rattle.std.specs.declared.io.ErrorKind.{ErrorKind}
use Rattle.std.specs.declared.io.ErrorKind.TheVariants.{UnexpectedEof, OutOfMemory, InvalidData}
use Rattle.sonic_error.specs.declared.code.ErrorCode.{ErrorCode}
use Rattle.sonic_error.specs.declared.code.ErrorCode.TheVariants.{Io, EofWhileParsing, NoMemory}
use Rattle.sonic_error.specs.declared.error.Error.{Error}
use Rattle.sonic_error.specs.declared.position.Position.{Position}
use Rattle.sonic_error.specs.Places.{offset_of, line_of, column_of, fragment_start, fragment_end}
use Rattle.sonic_error.specs.Texts.{code_text, mask_text, position_text}

-- a number of the position, or 0 where there is none
abbrev pub number_of_position : (Position → ℕ) → Option Position → ℕ
number_of_position number None = 0
number_of_position number (Some position) = number position

abbrev pub error_code : Error → ErrorCode
error_code error = error.code

-- the place in the text, or 0
abbrev pub error_offset : Error → ℕ
error_offset error = number_of_position (λ position. position.offset) error.position

-- the line of the place, or 0
abbrev pub error_line : Error → ℕ
error_line error = number_of_position (λ position. position.line) error.position

-- the column of the place, or 0
abbrev pub error_column : Error → ℕ
error_column error = number_of_position (λ position. position.column) error.position

-- the bytes that a position keeps
abbrev pub kept_fragment : Position → List ℕ
kept_fragment position = take (position.end - position.start) position.fragment

-- the mask of a position
abbrev pub kept_mask : Position → List ℕ
kept_mask position = mask_text (position.offset - position.start) (position.end - position.offset - 1)

-- a position as it is printed
abbrev pub kept_text : Position → List ℕ
kept_text position = position_text position.line position.column (kept_fragment position) (kept_mask position)

-- the position as it is printed, or nothing
abbrev pub place_text : Option Position → List ℕ
place_text None = []
place_text (Some position) = kept_text position

-- what an error prints
abbrev pub error_text : Error → List ℕ
error_text error = code_text error.code ++ place_text error.position

-- what an error at this place of this text is to print
abbrev pub shown : ErrorCode → List ℕ → ℕ → List ℕ
shown code text place =
    let offset = offset_of text place in
    let start = fragment_start text offset in
    let end = fragment_end text offset in
    code_text code ++ position_text (line_of text place) (column_of text place) (slice_range text start end)
    (mask_text (offset - start) (end - offset - 1))

-- the error says this code at this place of the text
pub record IsErrorAt (error : Error) (c : ErrorCode) (t : List ℕ) (p : ℕ) : Type 0 where
  pub code : error_code error ≡ c
  pub offset : error_offset error ≡ offset_of t p
  pub line : error_line error ≡ line_of t p
  pub column : error_column error ≡ column_of t p
  pub text : error_text error ≡ shown c t p

-- the error says this code, and no place
pub record IsPlainError (error : Error) (c : ErrorCode) : Type 0 where
  pub code : error_code error ≡ c
  pub offset : error_offset error ≡ 0
  pub line : error_line error ≡ 0
  pub column : error_column error ≡ 0
  pub text : error_text error ≡ code_text c

-- the kind of the error of reading or writing that caused it
abbrev pub io_kind_of : ErrorCode → Option ErrorKind
io_kind_of (Io kind) = Some kind
io_kind_of other = None

-- the kind of an error of reading or writing that is raised in its place
abbrev pub raised_kind_of : ErrorCode → ErrorKind
raised_kind_of (Io kind) = kind
raised_kind_of EofWhileParsing = UnexpectedEof
raised_kind_of NoMemory = OutOfMemory
raised_kind_of other = InvalidData
