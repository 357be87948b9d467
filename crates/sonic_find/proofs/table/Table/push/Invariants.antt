use Rattle.std.proofs.Common.{take}
use Rattle.sonic_find.specs.Found.{slots_of}
use Rattle.sonic_find.specs.Internal.Table.{IsAdded}
use Rattle.sonic_find.proofs.table.Table.push.Given as goal

abbrev pub invariant-loop-slot : goal.invariant-loop-slot
invariant-loop-slot l = IsAdded l.fn.self l.self l.fn.item (slots_of (take l.slot-index l.slots))
