use Rattle.sonic_parser.proofs.descent.Descent.head.Goals as goal

pub returns-in_ok-key-in-Object-clause-ok : goal.returns-in_ok-key-in-Object-clause-ok
returns-in_ok-key-in-Object-clause-ok c =
    rw (c.in-Object.is, ← c.self.view_is) c.in_ok-key-in-Object.ensures.ok
