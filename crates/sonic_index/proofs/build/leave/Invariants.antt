use Rattle.std.proofs.Common.{◌+◌, ◌-◌, ◌≤◌, length}
use Rattle.sonic_index.specs.Internal.Places.{HasEndAt}
use Rattle.sonic_index.proofs.build.leave.Given as goal

abbrev pub invariant-containers : goal.invariant-containers
invariant-containers l = record {
  ends : HasEndAt l.text l.written.cells.items l.at;
  later : l.fn.at.place ≤ l.at.place;
}

abbrev pub decreases-containers : goal.decreases-containers
decreases-containers l = length l.text + 1 - l.at.place
