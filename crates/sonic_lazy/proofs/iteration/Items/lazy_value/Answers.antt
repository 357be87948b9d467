use Rattle.std.proofs.Common.{arith}
use Rattle.sonic_lazy.proofs.WholeLemmas.{whole_of_part}
use Rattle.sonic_lazy.proofs.iteration.Items.lazy_value.Goals as goal
use Rattle.sonic_text.proofs.Values.{value-longer}

pub part-requires-clause-order : goal.part-requires-clause-order
part-requires-clause-order c = omega (arith, value-longer c.requires.part.value)

pub whole-requires : goal.whole-requires
whole-requires c =
    let bytes = rw (c.self.invariant.raw) at c.part.ensures.bytes in
    whole_of_part bytes (rw (← c.self.view_is) at c.requires.part) (rw (← c.self.view_is) at c.requires.escaped)
