-- The search for the start goes on from here with the result that it had at first.
use Rattle.std.proofs.Common.{◌≡◌, ◌+◌, ◌-◌, ◌≤◌}
use Rattle.sonic_error.specs.Places.{greatest_up_to, may_start, fragment_start}
use Rattle.sonic_error.proofs.fragment.start_of_fragment.Given as goal

abbrev pub invariant-loop-start : goal.invariant-loop-start
invariant-loop-start l = record {
  search : greatest_up_to (may_start l.json l.offset) l.start ≡ fragment_start l.json l.offset;
  before : l.start ≤ l.offset - 8;
  near : l.offset ≤ l.start + 17;
}

abbrev pub decreases-loop-start : goal.decreases-loop-start
decreases-loop-start l = l.start
