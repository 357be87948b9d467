-- The members that were passed lack the key.
use Rattle.std.proofs.Common.{◌≡◌, ◌≤◌, false, length, drop}
use Rattle.sonic_value.proofs.fill.last_of_key.Given as goal
use Rattle.sonic_value.specs.Internal.Fillers.{items_of}
use Rattle.sonic_value.specs.Filling.{has_key}

abbrev pub invariant-loop-index : goal.invariant-loop-index
invariant-loop-index l = record {
  within : l.index ≤ length l.members;
  without : has_key l.key (items_of (drop l.index l.members)) ≡ false;
}

abbrev pub decreases-loop-index : goal.decreases-loop-index
decreases-loop-index l = l.index
