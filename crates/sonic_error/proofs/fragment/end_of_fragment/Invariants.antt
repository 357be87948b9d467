-- The search for the end goes on from here with the result that it had at first.
use Rattle.std.proofs.Common.{◌≡◌, ◌+◌, ◌-◌, ◌<◌, ◌≤◌, length}
use Rattle.sonic_error.specs.Places.{least_from, may_end, fragment_end}
use Rattle.sonic_error.proofs.fragment.end_of_fragment.Given as goal

abbrev pub invariant-loop-end : goal.invariant-loop-end
invariant-loop-end l = record {
  search : least_from (may_end l.json l.offset) l.end (length l.json) ≡ fragment_end l.json l.offset;
  after : l.end < length l.json → l.offset + 8 ≤ l.end;
  from : l.offset ≤ l.end;
  near : l.end ≤ l.offset + 17;
  inside : l.end ≤ length l.json;
}

abbrev pub decreases-loop-end : goal.decreases-loop-end
decreases-loop-end l = length l.json - l.end
