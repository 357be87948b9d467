use Rattle.std.proofs.Common.{◌-◌, length}
use Rattle.sonic_index.proofs.PathLemmas.{AreBounds}
use Rattle.sonic_index.proofs.find.near.Given as goal

abbrev pub invariant-loop-low : goal.invariant-loop-low
invariant-loop-low l = AreBounds l.cells l.i l.end l.low (length l.cells)

abbrev pub decreases-loop-low : goal.decreases-loop-low
decreases-loop-low l = length l.cells - l.low
