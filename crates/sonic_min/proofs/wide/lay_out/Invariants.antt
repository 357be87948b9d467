use Rattle.std.proofs.Common.{◌-◌, length}
use Rattle.sonic_blocks.specs.Carried.{AreCarried}
use Rattle.sonic_min.specs.Internal.Lines.{IsLaidTo}
use Rattle.sonic_min.specs.Internal.Marks.{HasNoMark}
use Rattle.sonic_min.proofs.wide.lay_out.Given as goal

abbrev pub invariant-loop-place : goal.invariant-loop-place
invariant-loop-place l = record {
  carried : AreCarried l.text 0 l.place l.in_escape l.in_string;
  none : HasNoMark l.text l.so_far.start l.place;
  laid : IsLaidTo l.text l.width l.out l.so_far;
}

abbrev pub decreases-loop-place : goal.decreases-loop-place
decreases-loop-place l = length l.text - l.place
