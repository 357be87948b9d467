use Rattle.sonic_find.proofs.many_unchecked.Origin.read.Goals as goal
use Rattle.std.proofs.Common.{arith}
use Rattle.sonic_text.proofs.Values.{value-longer}
use Rattle.sonic_text.proofs.Within.{value_within}

pub set_index-requires : goal.set_index-requires
set_index-requires c = rw c.unscanned-read.ensures.text (omega (arith, value-longer c.requires.1, value_within c.requires.1))
