use Rattle.sonic_lazy.proofs.WholeLemmas.{lazy_is_whole}
use Rattle.sonic_lazy.proofs.lazyvalue.LazyValue.has_escaped.Goals as goal

-- the mark is a part of what the value holds
pub returns-clause-text : goal.returns-clause-text
returns-clause-text c = (lazy_is_whole c.args.self.now).escapes
