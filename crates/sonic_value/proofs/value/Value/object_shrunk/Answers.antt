use Rattle.sonic_value.proofs.ValueCountLemmas.{object_shrinks}
use Rattle.sonic_value.proofs.value.Value.object_shrunk.Goals as goal

pub returns : goal.returns
returns c = object_shrinks c.below.result c.args.members c.pop.new.self (c.in-Some.field-0-0, c.in-Some.last) (rw c.in-Some.is at c.pop.ensures.items) c.below.ensures
