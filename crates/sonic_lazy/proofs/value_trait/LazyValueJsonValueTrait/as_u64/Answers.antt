use Rattle.sonic_lazy.proofs.ScalarLemmas.{lazy_number}
use Rattle.sonic_lazy.proofs.value_trait.LazyValueJsonValueTrait.as_u64.Goals as goal

-- a value that is a number is one from end to end
pub whole_u64-requires : goal.whole_u64-requires
whole_u64-requires c = rw c.as_raw_str.ensures (lazy_number c.args.self.now (c.is_number.ensures.0 c.if-not-is_number.false))
