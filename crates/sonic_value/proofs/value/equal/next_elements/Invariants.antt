-- What is left of the arrays is the same where what was left of them is.
use Rattle.std.proofs.Common.{◌↔◌, ◌≤◌, ◌-◌, length}
use Rattle.sonic_value.specs.Internal.Comparisons.{array_alike}
use Rattle.sonic_value.specs.Internal.OpenTexts.{array_size}
use Rattle.sonic_value.proofs.value.equal.next_elements.Given as goal

abbrev pub invariant-elements : goal.invariant-elements
invariant-elements l = record {
  same : array_alike l.elements.items l.others.items l.position ↔ array_alike l.elements.items l.others.items l.same;
  less : array_size l.elements.items l.position ≤ array_size l.elements.items l.same;
}

abbrev pub decreases-elements : goal.decreases-elements
decreases-elements l = length l.elements.items - l.position
