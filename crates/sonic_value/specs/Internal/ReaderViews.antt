-- What the fields of a reader denote.
use Rattle.std.specs.Prelude.{◌≡◌, IsTrue}
use Rattle.std.specs.Str.{IsUtf8}
use Rattle.sonic_text.specs.Strings.{strict}
use Rattle.sonic_value.specs.Internal.Readers.{ReaderState}
use Rattle.sonic_value.specs.declared.reader.Reader.TheInside.{Inside}

-- the text and the place of the parser
abbrev pub cursor_of : Inside → ReaderState
cursor_of reader = record { source = record { text = reader.parser.text; is_utf8 = reader.utf8 }; place = reader.parser.place }

-- which reads strictly, and says that the text is UTF-8 only where it is
abbrev pub IsReader : Inside → Type 0
IsReader reader = (reader.parser.lossy ≡ strict) × (IsTrue reader.utf8 → IsUtf8 reader.parser.text)
