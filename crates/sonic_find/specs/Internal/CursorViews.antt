-- What the fields of a cursor denote.
use Rattle.std.specs.Prelude.{◌≡◌, take, is_some}
use Rattle.std.specs.Str.{IsUtf8}
use Rattle.sonic_text.specs.Strings.{strict}
use Rattle.sonic_find.specs.declared.cursor.Cursor.TheInside.{Inside}
use Rattle.sonic_find.specs.Cursors.{CursorState}

-- the cursor that its callers see
abbrev pub cursor_state_of : Inside → CursorState
cursor_state_of cursor = record { text = cursor.parser.text; place = cursor.parser.place; checks = is_some cursor.memory }

-- it reads strictly, and what was looked at is UTF-8
pub record IsCursor (cursor : Inside) : Type 0 where
  pub strictly : cursor.parser.lossy ≡ strict
  pub utf8 : IsUtf8 (take cursor.utf8 cursor.parser.text)
