use Rattle.sonic_lazy.proofs.lazyvalue.LazyValueClone.clone.Goals as goal
use Rattle.sonic_lazy.proofs.WholeLemmas.{lazy_one}

-- the copy has the same text, and says the same of escapes
pub returns : goal.returns
returns c =
    let value = c.args.self.now in
    record { cases = lazy_one value.raw value.has_escaped _ value.whole }
