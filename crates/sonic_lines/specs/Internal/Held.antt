-- What the fields of `Rows` denote, and what always holds of them.
use Rattle.std.specs.Prelude.{◌-◌, ◌<◌, ◌^◌}
use Rattle.sonic_lines.specs.Pieces.{LineReading}
use Rattle.sonic_lines.specs.Streams.{IsOneLine}
use Rattle.sonic_lines.specs.declared.rows.Rows.TheInside.{Inside}

-- what callers see
abbrev pub reading_of : Inside → LineReading
reading_of rows = record { columns = record { paths = rows.tree; each = rows.each }; lines = rows.lines; held = rows.held.items }

-- no line that is held has ended, and one more can be counted
abbrev pub HoldsOneLine : Inside → Type 0
HoldsOneLine rows = IsOneLine rows.held.items × (rows.lines < 2 ^ 64 - 1)
