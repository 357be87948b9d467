use Rattle.sonic_lazy.proofs.lazyvalue.LazyValueDefault.default.Goals as goal
use Rattle.sonic_lazy.proofs.WholeLemmas.{null_is_whole}

-- null is a whole value
pub invariant_of-result : goal.invariant_of-result
invariant_of-result c = record { whole = rw c.default.ensures.0 (∣ null_is_whole ∣₁) }
