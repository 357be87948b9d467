use Rattle.std.proofs.Common.{◌≡◌, map, take}
use Rattle.sonic_c.specs.Each.{told_outcome}
use Rattle.sonic_c.proofs.outcome.fill_outcomes.Given as goal

abbrev pub invariant-loop-i : goal.invariant-loop-i
invariant-loop-i l = record {
  front : take l.i l.outcomes ≡ map told_outcome (take l.i l.told);
}
