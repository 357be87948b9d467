use Rattle.sonic_lazy.proofs.lazyvalue.LazyValue.at.Goals as goal
use Rattle.sonic_lazy.proofs.WholeLemmas.{whole_of_part}

pub whole-requires : goal.whole-requires
whole-requires g c = whole_of_part c.from_range.ensures.bytes c.requires.value c.requires.escaped
