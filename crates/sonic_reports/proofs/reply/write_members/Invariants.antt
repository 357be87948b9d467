use Rattle.std.proofs.Common.{take}
use Rattle.std.specs.List.{flat_map}
use Rattle.sonic_io.specs.Buffers.{IsHandedOn}
use Rattle.sonic_reports.specs.Internal.Replies.{line_of_member}
use Rattle.sonic_reports.proofs.reply.write_members.Given as goal

abbrev pub invariant-loop-member : goal.invariant-loop-member
invariant-loop-member g l = IsHandedOn g.K.Sink (l.initial.sink, l.initial.buffer) (l.sink, l.buffer) (flat_map line_of_member (take l.member-index l.members))
