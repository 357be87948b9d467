-- What the fields of `RecordStream` denote.
use Rattle.sonic_stream.specs.Streams.{Stream}
use Rattle.sonic_stream.specs.declared.stream.RecordStream.TheInside.{Inside}

-- the stream that callers see
abbrev pub stream_of : Inside → Stream
stream_of records = record {
  held = records.held.items;
  next = records.next;
  before = records.before;
  is_skipping = records.is_skipping;
  is_ended = records.is_ended;
}
