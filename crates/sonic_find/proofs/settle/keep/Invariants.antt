use Rattle.std.proofs.Common.{take}
use Rattle.std.specs.List.{Contains}
use Rattle.sonic_find.proofs.settle.keep.Given as goal
use Rattle.sonic_find.specs.Internal.Walk.{AreSet}

abbrev pub invariant-loop-order : goal.invariant-loop-order
invariant-loop-order g l = AreSet (Contains (take l.order-index l.orders)) l.initial.slots l.slots l.x
