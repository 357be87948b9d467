-- No member before this one has the key.
use Rattle.std.proofs.Common.{ℕ, ◌-◌, ◌<◌, ◌≤◌, length}
use Rattle.sonic_owned.proofs.Folds.{members_of}
use Rattle.sonic_owned.proofs.value.LazyObject.first_of_key.Given as goal
use Rattle.sonic_owned.specs.Owned.{HasKeyAt}

abbrev pub invariant-loop-i : goal.invariant-loop-i
invariant-loop-i l = (l.i ≤ length l.members.items) × ((p : ℕ) → p < l.i → ¬ HasKeyAt (members_of l.members.items) l.key p)

abbrev pub decreases-loop-i : goal.decreases-loop-i
decreases-loop-i l = length l.members.items - l.i
