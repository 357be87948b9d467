use Rattle.std.proofs.Common.{arith}
use Rattle.sonic_text.proofs.Values.{value-longer}
use Rattle.sonic_text.proofs.Within.{value_within}
use Rattle.sonic_stream.proofs.stream.is_settled.Goals as goal

pub bounds-text-start : goal.bounds-text-start
bounds-text-start c = omega (arith, value-longer c.requires.value, value_within c.requires.value)

pub bounds-text-end : goal.bounds-text-end
bounds-text-end c = omega (arith, value_within c.requires.value)
