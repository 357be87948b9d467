-- The line that says an error of a document.
use Rattle.std.specs.Prelude.{ℕ, List, [], ◌++◌, codes}
use Rattle.std.specs.Fmt.{decimal}
use Rattle.sonic_error.specs.declared.code.ErrorCode.{ErrorCode}
use Rattle.sonic_error.specs.Places.{offset_of, line_of, column_of}
use Rattle.sonic_lines.specs.LineTexts.{error_text}

-- the line, the column and the offset of an error, as they are written
abbrev pub position_text : ℕ → ℕ → ℕ → List ℕ
position_text line column offset = decimal line ++ codes " " ++ decimal column ++ codes " " ++ decimal offset

-- the line of an error at a place of the document
abbrev pub line_of_error : List ℕ → ErrorCode → ℕ → List ℕ
line_of_error document code place = error_text [] code (position_text (line_of document place) (column_of document place) (offset_of document place))
