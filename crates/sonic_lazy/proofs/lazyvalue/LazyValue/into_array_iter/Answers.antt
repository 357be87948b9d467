use Rattle.sonic_lazy.proofs.UncheckedLemmas.{lazy_starts}
use Rattle.sonic_lazy.proofs.lazyvalue.LazyValue.into_array_iter.Goals as goal

-- the text of the value starts with it
pub unchecked-items-requires : goal.unchecked-items-requires
unchecked-items-requires c = rw c.raw.ensures (lazy_starts c.args.self)
