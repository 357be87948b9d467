use Rattle.sonic_find.proofs.cursor.Cursor.key.Goals as goal

pub returns-in-Some-clause-ok : goal.returns-in-Some-clause-ok
returns-in-Some-clause-ok c = rw (← c.self.view_is) (rw c.self.invariant.strictly at c.key.ensures.ok)
