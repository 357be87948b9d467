-- The containers are the same where those in hand and all that wait are.
use Rattle.std.proofs.Common.{◌↔◌, ◌≤◌}
use Rattle.sonic_value.specs.Internal.Comparisons.{compared_size, with_alike, with_size, IsAlike}
use Rattle.sonic_value.proofs.value.equal.+same_level.Given as goal

abbrev pub decreases-same_level : goal.decreases-same_level
decreases-same_level l = compared_size l.level

abbrev pub invariant-levels : goal.invariant-levels
invariant-levels l = record {
  same : with_alike l.next l.opened.items ↔ IsAlike l.fn.level;
  less : with_size l.next l.opened.items ≤ compared_size l.fn.level;
}

abbrev pub decreases-levels : goal.decreases-levels
decreases-levels l = with_size l.next l.opened.items
