-- What the command `index` writes of an input: a line for each value of the document.
use Rattle.std.specs.Prelude.{◌≡◌, ℕ, ◌+◌, true, List, [], ◌∷◌, ◌++◌, codes, slice_range}
use Rattle.std.specs.Fmt.{decimal}
use Rattle.sonic_error.specs.declared.json_type.JsonType.{JsonType}
use Rattle.sonic_error.specs.declared.json_type.JsonType.TheVariants.{Null, Boolean, Number, String, Object, Array}
use Rattle.sonic_find.specs.Documents.{IsValidDocument, IsInvalid}
use Rattle.sonic_index.specs.declared.entry.Entry.{Entry}
use Rattle.sonic_index.specs.declared.entry.Label.{Label}
use Rattle.sonic_index.specs.declared.entry.Label.TheVariants.{Root, Key, At}
use Rattle.sonic_index.specs.Entries.{AreEntries}
use Rattle.sonic_text.specs.declared.stop.Stop.{Stop}
use Rattle.sonic_reports.specs.declared.status.Status.{Status}
use Rattle.sonic_reports.specs.declared.status.Status.TheVariants.{Done, DocumentError}
use Rattle.sonic_reports.specs.ErrorLines.{line_of_error}

-- the word for a type
abbrev pub word_of_type : JsonType → List ℕ
word_of_type Null = codes "null"
word_of_type Boolean = codes "boolean"
word_of_type Number = codes "number"
word_of_type String = codes "string"
word_of_type Object = codes "object"
word_of_type Array = codes "array"

-- how a value is labelled in the one whose part it is: by its key as the text has it, with the quotes, or by its number
abbrev pub text_of_label : List ℕ → Label → List ℕ
text_of_label t Root = codes "root"
text_of_label t (Key start end) = codes "key " ++ slice_range t start end
text_of_label t (At n) = codes "at " ++ decimal n

-- the words of the value with this number: its number, its parent's, its type, and where it begins and ends
abbrev pub words_of_value : ℕ → Entry → List ℕ
words_of_value n x =
    decimal n ++ codes " " ++ decimal x.parent ++ codes " " ++ word_of_type x.kind ++ codes " " ++ decimal x.start ++ codes " " ++ decimal x.end ++ codes " "

-- its line: these words and its label
abbrev pub line_of_value_at : List ℕ → ℕ → Entry → List ℕ
line_of_value_at t n x = words_of_value n x ++ text_of_label t x.label ++ codes "\n"

-- the lines of values, the first of which has this number
abbrev pub lines_from : List ℕ → ℕ → List Entry → List ℕ
lines_from t n [] = []
lines_from t n (x ∷ es) = line_of_value_at t n x ++ lines_from t (n + 1) es

-- what `index` writes of an input, which is its document: the lines of its values, or that of the error that says why it is none
pub data IsIndexReport (input text : List ℕ) (status : Status) : Type 0 where
  invalid : (s : Stop) → IsInvalid input true s → text ≡ line_of_error input s.code s.place → status ≡ DocumentError → IsIndexReport input text status
  indexed : (es : List Entry) → IsValidDocument input → AreEntries input es → text ≡ lines_from input 0 es → status ≡ Done → IsIndexReport input text status
