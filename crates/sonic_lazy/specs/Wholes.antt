-- What a lazy value holds: the text of one value, and whether that is a string with a backslash.
use Rattle.std.specs.Prelude.{◌↔◌, ℕ, Bool, List, length, IsTrue}
use Rattle.std.specs.Str.{IsUtf8}
use Rattle.sonic_text.specs.Strings.{strict, IsEscapedString}
use Rattle.sonic_text.specs.Values.{IsValue}

-- one value is from end to end, in UTF-8, and has escapes exactly where it is a string with a backslash
pub record IsWholeValue (bytes : List ℕ) (has_escapes : Bool) : Type 0 where
  pub value : IsValue strict bytes 0 (length bytes)
  pub utf8 : IsUtf8 bytes
  pub escapes : IsTrue has_escapes ↔ IsEscapedString bytes 0 (length bytes)
