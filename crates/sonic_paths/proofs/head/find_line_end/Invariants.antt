use Rattle.std.proofs.Common.{length, ◌-◌, ◌≡◌, ◌≤◌}
use Rattle.sonic_paths.specs.Heads.{line_end}
use Rattle.sonic_paths.proofs.head.find_line_end.Given as goal

abbrev pub invariant-loop-place : goal.invariant-loop-place
invariant-loop-place l = record {
  later : l.start ≤ l.place;
  within : l.place ≤ length l.input;
  passed : line_end l.input l.place ≡ line_end l.input l.start;
}

abbrev pub decreases-loop-place : goal.decreases-loop-place
decreases-loop-place l = length l.input - l.place
