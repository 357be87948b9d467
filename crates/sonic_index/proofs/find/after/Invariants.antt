use Rattle.std.proofs.Common.{◌-◌}
use Rattle.sonic_index.proofs.PathLemmas.{AreBounds}
use Rattle.sonic_index.proofs.find.after.Given as goal

abbrev pub invariant-loop-low : goal.invariant-loop-low
invariant-loop-low l = AreBounds l.cells l.i l.end l.low l.high

abbrev pub decreases-loop-low : goal.decreases-loop-low
decreases-loop-low l = l.high - l.low
