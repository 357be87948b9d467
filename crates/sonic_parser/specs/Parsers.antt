-- A parser, and what its calls do with the text that is left.
use Rattle.std.specs.Prelude.{◌≡◌, ◌≢◌, ◌↔◌, ◌⊎◌, ℕ, ◌+◌, ◌-◌, ◌<◌, ◌≤◌, Bool, List, slice_range, IsTrue}
use Rattle.sonic_error.specs.declared.error.Error.{Error}
use Rattle.sonic_error.specs.declared.code.ErrorCode.TheVariants.{Message, NoMemory}
use Rattle.sonic_error.specs.declared.json_type.Note.TheVariants.{Mismatch}
use Rattle.sonic_error.specs.declared.json_type.Wanted.{Wanted}
use Rattle.sonic_error.specs.Errors.{IsErrorAt, IsPlainError}
use Rattle.sonic_text.specs.declared.kind.Kind.{Kind}
use Rattle.sonic_text.specs.declared.stop.Stop.{Stop}
use Rattle.sonic_text.specs.Places.{byte, after_space}
use Rattle.sonic_text.specs.Strings.{IsEscapedString}
use Rattle.sonic_text.specs.Values.{opening, closing, type_at, IsKey, IsValue}
use Rattle.sonic_text.specs.Faults.{IsFault}
use Rattle.sonic_parser.specs.declared.status.ParseStatus.{ParseStatus}
use Rattle.sonic_parser.specs.declared.status.ParseStatus.TheVariants.{HasEscaped}
use Rattle.sonic_parser.specs.declared.value_span.ValueSpan.{ValueSpan}
use Rattle.sonic_parser.specs.ValueSpans.{IsKeyAt}

-- a text, the place in it that is read next, the reader's first invalid byte, whether the text came as bytes that may be no UTF-8, and whether strings
-- are read in the lossy way, which takes surrogate escapes that aren't in pairs
pub record ParserState : Type 0 where
  pub text : List ℕ
  pub place : ℕ
  pub next_invalid : ℕ
  pub is_bytes : Bool
  pub lossy : Bool

-- the same parser at another place
abbrev pub moved : ParserState → ℕ → ParserState
moved parser place = record parser { place = place }

-- the place where the next value is expected
abbrev pub value_start : ParserState → ℕ
value_start parser = after_space parser.text parser.place

-- a whole value begins at i
abbrev pub HasValue : ParserState → ℕ → Type 0
HasValue parser i = (j : ℕ) × IsValue parser.lossy parser.text i j

-- a key with its colon is at the place
abbrev pub HasKey : ParserState → Type 0
HasKey parser = (v : ℕ) × (b : List ℕ) × IsKey parser.lossy parser.text parser.place v b

-- the value that was expected was skipped, and this is its text
pub record IsSkipped (before now : ParserState) (bytes : List ℕ) (needs : ParseStatus) : Type 0 where
  pub value : IsValue before.lossy before.text (value_start before) now.place
  pub span : bytes ≡ slice_range before.text (value_start before) now.place
  pub status : (needs ≡ HasEscaped) ↔ IsEscapedString before.text (value_start before) now.place
  pub cursor : now ≡ moved before now.place

-- what is expected isn't there, for this reason, and the parser has come to the place of the fault
pub record IsStopped (Fails : Stop → Type 0) (before now : ParserState) (e : Error) : Type 0 where
  pub stop : Stop
  pub fault : Fails stop
  pub error : IsErrorAt e stop.code before.text stop.place
  pub cursor : now ≡ moved before stop.place

-- at i a container begins that has an item, or says so of what follows
abbrev pub IsFilledContainer : List ℕ → ℕ → Type 0
IsFilledContainer t i = (kind : Kind) × (byte t i ≡ opening kind) × (byte t (after_space t (i + 1)) ≢ closing kind)

-- there is no memory to skip the container with items at i, and the parser is where it was
pub record IsOutOfMemory (i : ℕ) (before now : ParserState) (e : Error) : Type 0 where
  pub container : IsFilledContainer before.text i
  pub error : IsPlainError e NoMemory
  pub cursor : now ≡ before

-- no value was skipped, as it has a fault, or by running out of memory
abbrev pub IsUnskipped : ParserState → ParserState → Error → Type 0
IsUnskipped before now e = IsStopped (IsFault before.lossy before.text (value_start before)) before now e ⊎ IsOutOfMemory (value_start before) before now e

-- the container of this kind at the cursor has a first item, which is at the cursor now
pub record IsEntered (kind : Kind) (before now : ParserState) : Type 0 where
  pub value_start : now.place ≡ after_space before.text (before.place + 1)
  pub item : byte before.text now.place ≢ closing kind

-- the key at the cursor was passed with its colon, and the member's value is expected at the cursor now
abbrev pub IsKeyPassed : ParserState → ParserState → ValueSpan → Type 0
IsKeyPassed before now key = IsKeyAt before.lossy before.text before.place key now.place

-- the value at the cursor was skipped, and this is where it is
pub record IsPassed (before now : ParserState) (passed : ValueSpan) : Type 0 where
  pub start : passed.start ≡ before.place
  pub end : passed.end ≡ now.place
  pub later : before.place < now.place
  pub value : IsValue before.lossy before.text before.place now.place
  pub escaped : IsTrue passed.escaped ↔ IsEscapedString before.text before.place now.place

-- the value that begins before the cursor is of another type than is wanted, which the error says at its last byte, and the parser has come to its end
pub record IsMismatch (wanted : Wanted) (before now : ParserState) (e : Error) : Type 0 where
  pub value : IsValue before.lossy before.text (before.place - 1) now.place
  pub error : IsErrorAt e (Message (Mismatch (type_at before.text (before.place - 1)) wanted)) before.text (now.place - 1)
  pub later : before.place ≤ now.place
  pub cursor : now ≡ moved before now.place
