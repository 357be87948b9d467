use Rattle.sonic_find.proofs.state.Walk.new.Goals as goal
use Rattle.std.proofs.Common.{ap}
use Rattle.sonic_find.specs.Cursors.{CursorState}

pub invariant_of-result : goal.invariant_of-result
invariant_of-result c = record {
  checks = ap (λ (s : CursorState). s.checks) c.checked-cursor.ensures;
  escaped = rw c.checked-cursor.ensures c.requires.escaped;
}
