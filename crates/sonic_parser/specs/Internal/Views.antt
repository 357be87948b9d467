-- What the fields of a `Parser` denote.
use Rattle.sonic_parser.specs.Parsers.{ParserState}
use Rattle.sonic_parser.specs.Internal.Spaces.{IsKeptBlock}
use Rattle.sonic_parser.specs.declared.parser.Parser.TheInside.{Inside}

-- the parser that callers see
abbrev pub parser_state_of : Inside → ParserState
parser_state_of parser = record {
  text = parser.read.text;
  place = parser.read.place;
  next_invalid = parser.read.next_invalid;
  is_bytes = parser.read.is_bytes;
  lossy = parser.lossy;
}

-- the white space that it keeps is that of its text
abbrev pub KeepsSpace : Inside → Type 0
KeepsSpace parser = IsKeptBlock parser.read.text parser.kept
