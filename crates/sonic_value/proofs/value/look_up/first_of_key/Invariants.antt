-- No member before this one has the key.
use Rattle.std.proofs.Common.{ℕ, ◌-◌, ◌<◌, ◌≤◌, ◌≢◌, Some, length, slice_get}
use Rattle.sonic_value.proofs.value.look_up.first_of_key.Given as goal
use Rattle.sonic_value.specs.Internal.Keys.{seen, keys}

abbrev pub invariant-loop-i : goal.invariant-loop-i
invariant-loop-i l = (l.i ≤ length l.members) × ((p : ℕ) → p < l.i → slice_get (keys (seen l.members)) p ≢ Some l.key)

abbrev pub decreases-loop-i : goal.decreases-loop-i
decreases-loop-i l = length l.members - l.i
