use Rattle.std.proofs.Common.{◌≡◌, ◌++◌, map, take, drop}
use Rattle.sonic_c.specs.Each.{told_outcome}
use Rattle.sonic_c.proofs.kept.tell_from_buffers.Given as goal

abbrev pub invariant-loop-i : goal.invariant-loop-i
invariant-loop-i l = record {
  now : l.outcomes ≡ map told_outcome (take l.i l.buffers) ++ drop l.i l.fn.outcomes;
}
