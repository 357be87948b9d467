use Rattle.sonic_parser.proofs.begin.begin.Goals as goal

pub returns-in-123-clause-ok : goal.returns-in-123-clause-ok
returns-in-123-clause-ok c = c.begin_container.ensures c.args.lossy

pub returns-in-91-clause-ok : goal.returns-in-91-clause-ok
returns-in-91-clause-ok c = c.begin_container-in-91.ensures c.args.lossy
