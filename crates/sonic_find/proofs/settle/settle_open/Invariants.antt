use Rattle.std.proofs.Common.{◌<◌}
use Rattle.sonic_find.proofs.settle.settle_open.Given as goal
use Rattle.sonic_find.specs.Internal.Walk.{AreSet, GoesBy, IsOpen}

abbrev pub invariant-loop-i : goal.invariant-loop-i
invariant-loop-i g l = AreSet (GoesBy l.view.paths l.view.prefix l.view.children (λ c. (c < l.i) × IsOpen l.visited c)) l.initial.slots l.slots l.x
