use Rattle.sonic_lazy.proofs.ScalarLemmas.{lazy_span}
use Rattle.sonic_lazy.proofs.lazyvalue.LazyValue.as_str.Goals as goal

-- the value is a string
pub text-requires-clause-string : goal.text-requires-clause-string
text-requires-clause-string c = let x = lazy_span c.args.self.now (c.is_str.ensures.0 c.if-not-is_str.false) in rw c.bytes-text.ensures x.span

pub text-requires-clause-utf8 : goal.text-requires-clause-utf8
text-requires-clause-utf8 c = let x = lazy_span c.args.self.now (c.is_str.ensures.0 c.if-not-is_str.false) in rw c.bytes-text.ensures x.utf8
