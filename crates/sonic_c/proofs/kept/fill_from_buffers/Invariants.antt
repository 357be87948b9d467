use Rattle.std.proofs.Common.{◌≡◌, ◌++◌, map, take, drop}
use Rattle.sonic_c.specs.Internal.Told.{shown_outcome}
use Rattle.sonic_c.proofs.kept.fill_from_buffers.Given as goal

abbrev pub invariant-loop-i : goal.invariant-loop-i
invariant-loop-i l = record {
  now : l.spans ≡ map shown_outcome (take l.i l.buffers) ++ drop l.i l.fn.spans;
}
