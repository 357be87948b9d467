use Rattle.sonic_lazy.proofs.ScalarLemmas.{lazy_number}
use Rattle.sonic_lazy.proofs.value_trait.LazyValueJsonValueTrait.as_i64.Goals as goal

-- a value that is a number is one from end to end
pub whole_i64-requires : goal.whole_i64-requires
whole_i64-requires c = rw c.as_raw_str.ensures (lazy_number c.args.self.now (c.is_number.ensures.0 c.if-not-is_number.false))
