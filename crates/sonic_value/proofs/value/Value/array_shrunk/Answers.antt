use Rattle.sonic_value.proofs.ValueCountLemmas.{array_shrinks}
use Rattle.sonic_value.proofs.value.Value.array_shrunk.Goals as goal

pub returns : goal.returns
returns c = array_shrinks c.below.result c.args.elements c.pop.new.self c.in-Some.last (rw c.in-Some.is at c.pop.ensures.items) c.below.ensures
