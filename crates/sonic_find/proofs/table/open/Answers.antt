use Rattle.sonic_find.proofs.table.open.Goals as goal
use Rattle.std.proofs.Common.{arith}
use Rattle.sonic_text.proofs.Values.{value-longer}

pub overflow_sub-place : goal.overflow_sub-place
overflow_sub-place c = omega (arith, value-longer c.requires)
