use Rattle.std.proofs.Common.{take}
use Rattle.sonic_io.specs.Buffers.{IsHandedOn}
use Rattle.sonic_reports.specs.Commands.Entries.{lines_from}
use Rattle.sonic_reports.proofs.reply.write_entries.Given as goal

abbrev pub invariant-loop-number : goal.invariant-loop-number
invariant-loop-number g l = IsHandedOn g.K.Sink (l.initial.sink, l.initial.buffer) (l.sink, l.buffer) (lines_from l.index.text 0 (take l.number l.index.entries))
