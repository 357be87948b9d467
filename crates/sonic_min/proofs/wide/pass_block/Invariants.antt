use Rattle.std.proofs.Common.{◌+◌, ◌-◌}
use Rattle.sonic_min.specs.Internal.Lines.{IsLaidTo}
use Rattle.sonic_min.specs.Internal.Marks.{HasNoMark}
use Rattle.sonic_min.proofs.wide.pass_block.Given as goal

abbrev pub invariant-marks : goal.invariant-marks
invariant-marks l = record {
  laid : IsLaidTo l.text l.width l.out l.so_far;
  none : HasNoMark l.text l.so_far.start l.marks.place;
}

abbrev pub decreases-marks : goal.decreases-marks
decreases-marks l = l.marks.place + 64 - l.so_far.start
