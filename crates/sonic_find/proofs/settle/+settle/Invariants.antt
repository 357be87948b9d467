use Rattle.std.proofs.Common.{◌<◌}
use Rattle.sonic_find.proofs.settle.+settle.Given as goal
use Rattle.sonic_find.proofs.WalkLemmas.Settle.{left_of}
use Rattle.sonic_find.specs.Internal.Walk.{AreSet, GoesBy}

abbrev pub decreases-settle : goal.decreases-settle
decreases-settle g l = left_of l.view.now.paths l.view.now.prefix

abbrev pub invariant-loop-i : goal.invariant-loop-i
invariant-loop-i g l = AreSet (GoesBy l.view.paths l.view.prefix l.view.children (λ c. (c < l.i) × Unit)) l.initial.slots l.slots l.x
