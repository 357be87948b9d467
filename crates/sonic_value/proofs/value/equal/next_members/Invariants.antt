-- What is left of the objects is the same where what was left of them is.
use Rattle.std.proofs.Common.{◌↔◌, ◌≤◌, ◌-◌, length}
use Rattle.sonic_value.specs.Internal.Comparisons.{object_alike}
use Rattle.sonic_value.specs.Internal.OpenTexts.{object_size}
use Rattle.sonic_value.proofs.value.equal.next_members.Given as goal

abbrev pub invariant-members : goal.invariant-members
invariant-members l = record {
  same : object_alike l.members.items l.others.items l.position ↔ object_alike l.members.items l.others.items l.same;
  less : object_size l.members.items l.position ≤ object_size l.members.items l.same;
}

abbrev pub decreases-members : goal.decreases-members
decreases-members l = length l.members.items - l.position
