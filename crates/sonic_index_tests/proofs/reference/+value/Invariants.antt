use Rattle.std.proofs.Common.{◌≡◌, ◌<◌}
use Rattle.sonic_index_tests.proofs.reference.+value.Given as goal

abbrev pub decreases-value : goal.decreases-value
decreases-value l = l.deep

abbrev pub invariant-loop-count : goal.invariant-loop-count
invariant-loop-count l = record {
  some : 0 < l.deep;
  same : l.deep ≡ l.fn.deep;
}
