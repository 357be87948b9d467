use Rattle.std.proofs.Common.{◌+◌, ◌-◌, length}
use Rattle.sonic_index.specs.Internal.Places.{HasItemAt}
use Rattle.sonic_index.proofs.build.entries.Given as goal

abbrev pub invariant-items : goal.invariant-items
invariant-items l = HasItemAt l.text l.written.cells.items l.at

abbrev pub decreases-items : goal.decreases-items
decreases-items l = length l.text + 1 - l.at.place
