use Rattle.sonic_stream.proofs.NextLemmas.{next_one}
use Rattle.sonic_stream.proofs.law.stream_has_one_next.Goals as goal

pub returns : goal.returns
returns c = λ s a b x y f g. next_one f g
