-- What a text that is one string denotes (RFC 8259, section 7).
use Rattle.std.specs.Prelude.{ℕ, List, length}
use Rattle.std.specs.declared.borrow.CowStr.{CowStr}
use Rattle.sonic_text.specs.Strings.{IsEscapedString}
use Rattle.sonic_parser.specs.ValueSpans.{IsTextAt}

-- the whole text is a string with a backslash
abbrev pub IsEscapedText : List ℕ → Type 0
IsEscapedText t = IsEscapedString t 0 (length t)

-- the text is what the whole text denotes, which is a string
abbrev pub IsTextOf : {Z : Type 0} → List ℕ → CowStr Z → Type 0
IsTextOf t text = IsTextAt t 0 (length t) text
