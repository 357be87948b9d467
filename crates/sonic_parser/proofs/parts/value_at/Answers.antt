use Rattle.sonic_parser.proofs.parts.value_at.Goals as goal

pub returns-in-Some-clause-ok : goal.returns-in-Some-clause-ok
returns-in-Some-clause-ok c = c.container_at.ensures c.args.lossy
