use Rattle.std.proofs.Common.{take}
use Rattle.sonic_find.specs.Found.{slots_of}
use Rattle.sonic_find.specs.Internal.Walk.{IsFurthest}
use Rattle.sonic_find.proofs.answer.furthest_need.Given as goal

abbrev pub invariant-loop-slot : goal.invariant-loop-slot
invariant-loop-slot l = IsFurthest (slots_of (take l.slot-index l.found)) l.reach
