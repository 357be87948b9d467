-- What the fields of a `Descent` denote.
use Rattle.sonic_parser.specs.Descents.{DescentState}
use Rattle.sonic_parser.specs.declared.descent.Descent.TheInside.{Inside}

-- the walk that callers see
abbrev pub descending_of : Inside → DescentState
descending_of descent = record {
  text = descent.parser.text;
  place = descent.parser.place;
  lossy = descent.parser.lossy;
  opened = descent.opened.items;
}
