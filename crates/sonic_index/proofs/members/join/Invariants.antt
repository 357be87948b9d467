use Rattle.std.proofs.Common.{take}
use Rattle.sonic_index.specs.Internal.Members.{AreJoined}
use Rattle.sonic_index.proofs.members.join.Given as goal

abbrev pub invariant-loop-other : goal.invariant-loop-other
invariant-loop-other l = AreJoined l.cells (take l.other-index l.escaped) l.initial.members.items l.members.items
