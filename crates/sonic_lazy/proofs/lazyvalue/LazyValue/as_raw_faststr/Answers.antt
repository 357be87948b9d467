use Rattle.sonic_lazy.proofs.WholeLemmas.{lazy_is_whole}
use Rattle.sonic_lazy.proofs.lazyvalue.LazyValue.as_raw_faststr.Goals as goal

-- the text of a whole value is UTF-8
pub as_faststr-requires : goal.as_faststr-requires
as_faststr-requires c = (lazy_is_whole c.args.self.now).utf8
