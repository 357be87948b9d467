use Rattle.sonic_find.proofs.VisitLemmas.{bits_none}
use Rattle.sonic_find.proofs.visited.fresh_flags.Goals as goal

pub returns-then-count-le-FEW : goal.returns-then-count-le-FEW
returns-then-count-le-FEW c = record { none = bits_none c.args.count; fits = c.if-count-le-FEW.true }
