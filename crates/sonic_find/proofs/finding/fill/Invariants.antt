use Rattle.std.proofs.Common.{◌≡◌, map, take}
use Rattle.sonic_find.specs.Found.{slot_in}
use Rattle.sonic_find.proofs.finding.fill.Given as goal

abbrev pub invariant-loop-i : goal.invariant-loop-i
invariant-loop-i l = record {
  front : take l.i l.out ≡ map slot_in (take l.i l.found);
}
