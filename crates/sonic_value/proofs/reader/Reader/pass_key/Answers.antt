use Rattle.sonic_value.proofs.reader.Reader.pass_key.Goals as goal

pub returns-clause-ok : goal.returns-clause-ok
returns-clause-ok c = rw (← c.self.view_is) (rw c.self.invariant.0 at c.key.ensures.ok)
