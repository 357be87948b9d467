use Rattle.std.proofs.Common.{refl}
use Rattle.sonic_lazy.proofs.ScalarLemmas.{lazy_number}
use Rattle.sonic_lazy.proofs.lazyvalue.LazyValue.as_raw_number.Goals as goal

-- a value that is a number is one from end to end
pub invariant_of-result : goal.invariant_of-result
invariant_of-result c = rw c.in-Ok.ensures.ok (lazy_number c.args.self.now (c.is_number.ensures.0 c.if-not-is_number.false))

pub returns-in-Ok-clause-some : goal.returns-in-Ok-clause-some
returns-in-Ok-clause-some c = (λ found. lazy_number c.args.self.now (c.is_number.ensures.0 c.if-not-is_number.false), λ number. refl)

pub returns-in-Err-clause-memory : goal.returns-in-Err-clause-memory
returns-in-Err-clause-memory c = lazy_number c.args.self.now (c.is_number.ensures.0 c.if-not-is_number.false)
