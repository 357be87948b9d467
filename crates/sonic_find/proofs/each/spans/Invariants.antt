use Rattle.std.proofs.Common.{◌≡◌, take}
use Rattle.sonic_find.proofs.each.spans.Given as goal
use Rattle.sonic_find.specs.Found.{slots_of}

abbrev pub invariant-loop-outcome : goal.invariant-loop-outcome
invariant-loop-outcome l = l.told.items ≡ slots_of (take l.outcome-index l.located)
