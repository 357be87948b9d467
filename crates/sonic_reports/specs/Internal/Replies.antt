-- The bytes of a report that is ready to be written, and of its parts.
use Rattle.std.specs.Prelude.{◌≡◌, ℕ, List, [], ◌++◌, codes, Result, Ok, Err}
use Rattle.std.specs.Borrow.{Bor}
use Rattle.std.specs.Fmt.{decimal}
use Rattle.std.specs.Cow.{cow_str_bytes}
use Rattle.std.specs.List.{flat_map}
use Rattle.std.specs.declared.borrow.CowStr.{CowStr}
use Rattle.std.specs.declared.option.Option.{Option}
use Rattle.std.specs.declared.option.Option.TheVariants.{Some, None}
use Rattle.std.specs.declared.vec.Vec.{Vec}
use Rattle.sonic_error.specs.declared.code.ErrorCode.TheVariants.{NoMemory}
use Rattle.sonic_error.specs.declared.error.Error.{Error}
use Rattle.sonic_error.specs.Errors.{error_code, error_line, error_column, error_offset}
use Rattle.sonic_lazy.specs.declared.lazyvalue.LazyValue.{LazyValue}
use Rattle.sonic_lazy.specs.LazyValues.{raw_bytes}
use Rattle.sonic_lines.specs.LineTexts.{counted, error_text}
use Rattle.sonic_reports.specs.declared.reply.Lines.{Lines}
use Rattle.sonic_reports.specs.declared.reply.Lines.TheVariants.{Values, Texts, Members, Entries, Made}
use Rattle.sonic_reports.specs.declared.reply.Reply.{Reply}
use Rattle.sonic_reports.specs.declared.status.Status.TheVariants.{Done, DocumentError, BadLines}
use Rattle.sonic_reports.specs.Commands.Entries.{lines_from}
use Rattle.sonic_reports.specs.ErrorLines.{position_text}
use Rattle.sonic_reports.specs.Lines.{line_of_text}

-- the line of a value, or of none
abbrev pub line_of_value : Option LazyValue → List ℕ
line_of_value None = codes "-\n"
line_of_value (Some value) = line_of_text (raw_bytes value)

-- the line of a text
abbrev pub line_of_shown : Bor (List ℕ) → List ℕ
line_of_shown text = line_of_text text.now

-- the line of a member, of which these are the key and the text of the value
abbrev pub line_of_member : {Z : Type 0} → CowStr Z × Bor (List ℕ) → List ℕ
line_of_member member = counted (cow_str_bytes member.0) ++ codes " " ++ line_of_shown member.1

-- the bytes of lines
abbrev pub text_of_lines : Lines → List ℕ
text_of_lines (Values values) = flat_map line_of_value values.items
text_of_lines (Texts texts) = flat_map line_of_shown texts.items
text_of_lines (Members members) = flat_map line_of_member members.items
text_of_lines (Entries index) = lines_from index.text 0 index.entries
text_of_lines (Made bytes) = bytes.items

-- the bytes of a report
abbrev pub text_of : Reply → List ℕ
text_of reply = text_of_lines reply.lines ++ cow_str_bytes reply.last

-- the text is the line of this error, and memory didn't run out
pub record IsLineOf (text : List ℕ) (error : Error) : Type 0 where
  pub memory : ¬ (error_code error ≡ NoMemory)
  pub is : text ≡ error_text [] (error_code error) (position_text (error_line error) (error_column error) (error_offset error))

-- the report names the first bad line of a head by its number
pub record IsBadLineReply (number : ℕ) (reply : Reply) : Type 0 where
  pub text : text_of reply ≡ codes "! paths " ++ decimal number ++ codes "\n"
  pub status : reply.status ≡ BadLines

-- the report is the lines of these values
pub record IsValuesReply (values : List (Option LazyValue)) (reply : Reply) : Type 0 where
  pub text : text_of reply ≡ flat_map line_of_value values
  pub status : reply.status ≡ Done

-- the report is the line of this error
pub record IsErrorReply (error : Error) (reply : Reply) : Type 0 where
  pub line : IsLineOf (text_of reply) error
  pub status : reply.status ≡ DocumentError

-- the report is of this answer
abbrev pub IsAnswerReply : {A : Type 0} → Result (Vec (Option LazyValue) A) Error → Reply → Type 0
IsAnswerReply (Ok values) reply = IsValuesReply values.items reply
IsAnswerReply (Err error) reply = IsErrorReply error reply
