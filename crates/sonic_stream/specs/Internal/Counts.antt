-- What always holds of the fields of `RecordStream`: an invariant, on which no public clause rests.
use Rattle.std.specs.Prelude.{◌≤◌, ◌<◌, ◌+◌, ◌^◌, length}
use Rattle.sonic_stream.specs.declared.stream.RecordStream.TheInside.{Inside}

-- the next record's place is in what is held, and a `usize` counts the stream's bytes
abbrev pub IsCounted : Inside → Type 0
IsCounted records = (records.next ≤ length records.held.items) × (records.before + length records.held.items < 2 ^ 64)
