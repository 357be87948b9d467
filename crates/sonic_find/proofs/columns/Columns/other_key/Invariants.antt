use Rattle.std.proofs.Common.{◌≡◌}
use Rattle.sonic_find.proofs.columns.Columns.other_key.Given as goal

abbrev pub invariant-loop-number : goal.invariant-loop-number
invariant-loop-number l = l.self ≡ l.fn.self
