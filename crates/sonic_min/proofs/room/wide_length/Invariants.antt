-- What carries over from block to block is one of two words, and a bit.
use Rattle.std.proofs.Common.{◌≡◌, ◌⊎◌, ◌-◌, ◌<◌, ◌^◌, length}
use Rattle.sonic_min.proofs.room.wide_length.Given as goal

abbrev pub invariant-loop-place : goal.invariant-loop-place
invariant-loop-place l = record {
  string : (l.in_string ≡ 0) ⊎ (l.in_string ≡ 2 ^ 64 - 1);
  escape : l.in_escape < 2;
}

abbrev pub decreases-loop-place : goal.decreases-loop-place
decreases-loop-place l = length l.text - l.place
