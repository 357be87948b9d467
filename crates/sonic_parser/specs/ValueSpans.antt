-- Where a value of a text is, and what a string of a text denotes (RFC 8259, section 7).
use Rattle.std.specs.Prelude.{◌≡◌, ◌↔◌, ◌<◌, ◌≤◌, ℕ, Bool, List, length, IsTrue}
use Rattle.std.specs.Cow.{IsBorrowedStr, cow_str_bytes}
use Rattle.std.specs.Str.{IsUtf8}
use Rattle.std.specs.declared.borrow.CowStr.{CowStr}
use Rattle.sonic_text.specs.declared.string.StringEnd.{StringEnd}
use Rattle.sonic_text.specs.Strings.{strict, IsString, IsEscapedString}
use Rattle.sonic_text.specs.Values.{IsKey}
use Rattle.sonic_parser.specs.declared.value_span.ValueSpan.{ValueSpan}

-- the span of a string that begins at i
abbrev pub string_span : ℕ → StringEnd → ValueSpan
string_span i string = record { start = i; end = string.end; escaped = string.escaped }

-- the span says that it is a string with a backslash exactly where it is one
abbrev pub FlagsEscape : List ℕ → ValueSpan → Type 0
FlagsEscape t x = IsTrue x.escaped ↔ IsEscapedString t x.start x.end

-- a string is there, and has a backslash where the span says so
pub record IsStringSpan (t : List ℕ) (string : ValueSpan) : Type 0 where
  pub bytes : List ℕ
  pub is : IsString strict t string.start string.end bytes
  pub escaped : FlagsEscape t string

-- the key of a member is at k, with its colon, and the member's value is expected at v
pub record IsKeyAt (m : Bool) (t : List ℕ) (k : ℕ) (span : ValueSpan) (v : ℕ) : Type 0 where
  pub start : span.start ≡ k
  pub later : k < v
  pub within : v ≤ length t
  pub bytes : List ℕ
  pub string : IsString m t k span.end bytes
  pub key : IsKey m t k v bytes
  pub escaped : IsTrue span.escaped ↔ IsEscapedString t k span.end

-- what the string from i to j denotes is UTF-8, as in every text in UTF-8
abbrev pub DenotesUtf8 : List ℕ → ℕ → ℕ → Type 0
DenotesUtf8 t i j = (b : List ℕ) → IsString strict t i j b → IsUtf8 b

-- the text is what the string from i to j denotes, and borrowed exactly where no backslash is in that
pub record IsTextAt {Z : Type 0} (t : List ℕ) (i j : ℕ) (text : CowStr Z) : Type 0 where
  pub string : IsString strict t i j (cow_str_bytes text)
  pub borrowed : IsBorrowedStr text ↔ ¬ IsEscapedString t i j
