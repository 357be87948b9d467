use Rattle.sonic_find.proofs.many_unchecked.value_span.Goals as goal
use Rattle.sonic_text.proofs.Values.{value_end_one}

pub returns-in-34-clause-end : goal.returns-in-34-clause-end
returns-in-34-clause-end c = value_end_one c.span.ensures.value c.requires
