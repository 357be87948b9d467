use Rattle.std.proofs.Common.{take}
use Rattle.std.specs.List.{flat_map}
use Rattle.sonic_io.specs.Buffers.{IsHandedOn}
use Rattle.sonic_reports.specs.Internal.Replies.{line_of_shown}
use Rattle.sonic_reports.proofs.reply.write_texts.Given as goal

abbrev pub invariant-loop-text : goal.invariant-loop-text
invariant-loop-text g l = IsHandedOn g.K.Sink (l.initial.sink, l.initial.buffer) (l.sink, l.buffer) (flat_map line_of_shown (take l.text-index l.texts))
