-- Texts that are read from strings (RFC 8259, section 7), and where they are.
use Rattle.std.specs.Prelude.{◌≡◌, ◌≢◌, ◌⊎◌, ℕ, ◌+◌, ◌-◌, ◌<◌, ◌≤◌, Bool, List, [], Result, Ok, Err, if◌then◌else◌, ⊤}
use Rattle.std.specs.Str.{IsUtf8}
use Rattle.std.specs.Str.Lossy.{utf8_lossy}
use Rattle.sonic_error.specs.declared.code.ErrorCode.TheVariants.{InvalidUTF8, NoMemory}
use Rattle.sonic_error.specs.declared.error.Error.{Error}
use Rattle.sonic_error.specs.Errors.{error_code, IsPlainError}
use Rattle.sonic_error.specs.Texts.{valid_up_to}
use Rattle.sonic_input.specs.ReadStates.{IsNextInvalid}
use Rattle.sonic_text.specs.declared.stop.Stop.{Stop}
use Rattle.sonic_text.specs.Strings.{strict, lossy, contents, IsString, IsEscapedString, IsStringFault}
use Rattle.sonic_parser.specs.declared.reference.Reference.{Reference}
use Rattle.sonic_parser.specs.declared.reference.Reference.TheVariants.{Borrowed, Copied}
use Rattle.sonic_parser.specs.Parsers.{ParserState}

-- the text of a reference
abbrev pub reference_text : Reference → List ℕ
reference_text (Borrowed text) = text.now
reference_text (Copied text) = text.now

-- it is a part of the input
abbrev pub IsBorrowed : Reference → Type 0
IsBorrowed (Borrowed text) = ⊤
IsBorrowed (Copied text) = ⊥

-- the text of the bytes that a string denotes: a lossy reader takes U+FFFD for each sequence that is no UTF-8
abbrev pub text_of : Bool → List ℕ → List ℕ
text_of m b = if m then utf8_lossy b else b

-- the contents of the string from i to j are its text: they are UTF-8, and have no backslash
abbrev pub IsTextThere : List ℕ → ℕ → ℕ → Type 0
IsTextThere t i j = IsUtf8 (contents t i j) × ¬ IsEscapedString t i j

-- the first invalid byte that is known after a string was read: where a lossy reader passed it, the next one, and else the same
pub record IsNextKnown (before now : ParserState) : Type 0 where
  pub passed : before.lossy ≡ lossy → before.next_invalid < now.place → IsNextInvalid before.is_bytes before.text now.place now.next_invalid
  pub kept : (before.lossy ≡ strict) ⊎ (now.place ≤ before.next_invalid) → now.next_invalid ≡ before.next_invalid

-- the string whose first quote comes before the cursor was read as this text, and the cursor is after its last
pub record IsTextRead (before now : ParserState) (found : List ℕ) : Type 0 where
  pub bytes : List ℕ
  pub string : IsString before.lossy before.text (before.place - 1) now.place bytes
  pub text : found ≡ text_of before.lossy bytes
  pub utf8 : before.lossy ≡ strict → IsUtf8 (contents before.text (before.place - 1) now.place)
  pub next_invalid : IsNextKnown before now
  pub cursor : now ≡ record before { place = now.place; next_invalid = now.next_invalid }

-- the string at i has a fault, or, if the reader is strict, contents that aren't UTF-8, which is told where they break
pub data IsNoText (m : Bool) (t : List ℕ) (i : ℕ) (s : Stop) : Type 0 where
  no_string : IsStringFault m t i s → IsNoText m t i s
  broken_contents : {j : ℕ} {b : List ℕ} → m ≡ strict → IsString strict t i j b → ¬ IsUtf8 (contents t i j)
      → s ≡ record { place = i + 1 + valid_up_to (contents t i j); code = InvalidUTF8 } → IsNoText m t i s

-- there is no memory for the text of the string whose first quote comes before the cursor: it has one, which isn't there in the input, and the parser is
-- where it was
pub record IsShortOfText (before now : ParserState) (e : Error) : Type 0 where
  pub end : ℕ
  pub bytes : List ℕ
  pub string : IsString before.lossy before.text (before.place - 1) end bytes
  pub utf8 : before.lossy ≡ strict → IsUtf8 (contents before.text (before.place - 1) end)
  pub copied : ¬ IsTextThere before.text (before.place - 1) end
  pub error : IsPlainError e NoMemory
  pub cursor : now ≡ before

-- what a buffer holds after a string was read: what it held, where it has no part in the answer; the text that was copied; nothing, where memory ran out
abbrev pub IsBufferAfter : Result Reference Error → List ℕ → List ℕ → Type 0
IsBufferAfter (Ok (Borrowed text)) old now = now ≡ old
IsBufferAfter (Ok (Copied text)) old now = now ≡ text.now
IsBufferAfter (Err e) old now = (error_code e ≢ NoMemory → now ≡ old) × (error_code e ≡ NoMemory → now ≡ [])
