use Rattle.sonic_lazy.proofs.lazyvalue.LazyValue.text.Goals as goal
use Rattle.sonic_lazy.proofs.WholeLemmas.{lazy_is_whole}

-- the text of a whole value is UTF-8
pub from_utf8_unchecked-requires : goal.from_utf8_unchecked-requires
from_utf8_unchecked-requires c = rw c.bytes.ensures (lazy_is_whole c.args.self.now).utf8
