use Rattle.sonic_parser.proofs.quick.look.Goals as goal

pub returns-in-Some-opened_by : goal.returns-in-Some-opened_by
returns-in-Some-opened_by c = c.inside.ensures c.args.lossy

pub returns-in_default : goal.returns-in_default
returns-in_default c = c.short_look.ensures c.args.lossy
