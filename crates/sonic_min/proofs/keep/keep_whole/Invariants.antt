use Rattle.std.proofs.Common.{◌≡◌, ◌+◌, ◌-◌, ◌%◌, ◌≤◌, ◌++◌, length, take}
use Rattle.sonic_blocks.specs.Bits.{is_set}
use Rattle.sonic_min.specs.Internal.Kept.{picked}
use Rattle.sonic_min.proofs.keep.keep_whole.Given as goal

abbrev pub invariant-loop-k : goal.invariant-loop-k
invariant-loop-k l = record {
  bytes : take l.end l.room ≡ take l.at l.fn.room ++ picked (is_set l.bits) l.bytes l.k;
  few : l.end ≤ l.at + l.k;
  within : l.k ≤ 64;
  eights : l.k % 8 ≡ 0;
  len : length l.room ≡ length l.fn.room;
}

abbrev pub decreases-loop-k : goal.decreases-loop-k
decreases-loop-k l = 64 - l.k
