use Rattle.std.proofs.Common.{◌-◌, ◌<◌, ◌≤◌, length, take}
use Rattle.sonic_pointer.specs.Internal.Pieces.{numbers_of}
use Rattle.sonic_pointer.proofs.pieces.holder.Given as goal

abbrev pub invariant-loop-low : goal.invariant-loop-low
invariant-loop-low l = record {
  order : l.low < l.high;
  end : l.high ≤ length l.pieces;
  from : length (numbers_of (take l.low l.pieces)) ≤ l.position;
  to : l.high < length l.pieces → l.position < length (numbers_of (take l.high l.pieces));
}

abbrev pub decreases-loop-low : goal.decreases-loop-low
decreases-loop-low l = l.high - l.low
