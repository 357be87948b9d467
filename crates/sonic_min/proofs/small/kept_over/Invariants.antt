use Rattle.std.proofs.Common.{◌≡◌, ◌-◌, ◌<◌, ◌≤◌, length, take}
use Rattle.sonic_blocks.specs.Carried.{AreCarried}
use Rattle.sonic_min.specs.Internal.Kept.{kept}
use Rattle.sonic_min.proofs.small.kept_over.Given as goal

abbrev pub invariant-loop-place : goal.invariant-loop-place
invariant-loop-place g l = record {
  tape : l.tape ≡ l.text;
  carried : l.place < length l.text → AreCarried l.text 0 l.place l.in_escape l.in_string;
  bytes : take l.at l.room ≡ kept l.text l.place;
  few : l.at ≤ l.place;
  within : l.place ≤ length l.text;
  len : length l.room ≡ length l.text;
}

abbrev pub decreases-loop-place : goal.decreases-loop-place
decreases-loop-place g l = length l.text - l.place
