use Rattle.std.proofs.Common.{take}
use Rattle.std.specs.List.{flat_map}
use Rattle.sonic_io.specs.Buffers.{IsHandedOn}
use Rattle.sonic_reports.specs.Internal.Replies.{line_of_value}
use Rattle.sonic_reports.proofs.reply.write_values.Given as goal

abbrev pub invariant-loop-value : goal.invariant-loop-value
invariant-loop-value g l = IsHandedOn g.K.Sink (l.initial.sink, l.initial.buffer) (l.sink, l.buffer) (flat_map line_of_value (take l.value-index l.values))
