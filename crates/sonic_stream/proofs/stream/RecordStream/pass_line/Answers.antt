use Rattle.std.proofs.Common.{refl}
use Rattle.sonic_stream.specs.Streams.IsPastLine.{with_line_feed}
use Rattle.sonic_stream.proofs.stream.RecordStream.pass_line.Goals as goal

pub returns-in-Some : goal.returns-in-Some
returns-in-Some c = rw (← c.self.view_is) (with_line_feed (rw c.deref.ensures.value at c.in-Some.ensures.some) refl)
