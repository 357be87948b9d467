use Rattle.std.proofs.Common.{◌-◌}
use Rattle.sonic_index.specs.Internal.Members.{AreOrdered, IsPlaceFor}
use Rattle.sonic_index.proofs.members.place.Given as goal

abbrev pub invariant-loop-low : goal.invariant-loop-low
invariant-loop-low l = (o : AreOrdered l.text l.cells l.numbers) → IsPlaceFor o.members l.i l.key l.low l.high

abbrev pub decreases-loop-low : goal.decreases-loop-low
decreases-loop-low l = l.high - l.low
