use Rattle.std.proofs.Common.{refl}
use Rattle.sonic_lazy.proofs.each.outcome_at.Goals as goal
use Rattle.sonic_lazy.specs.Shown.{shows_found, shows_missing, shows_fails}

pub at-requires : goal.at-requires
at-requires g c κs = ((refl, tt), (c.requires.part c.in-Found.span c.in-Found.is, c.requires.escaped c.in-Found.span c.in-Found.is))

pub returns-in-Found : goal.returns-in-Found
returns-in-Found g c = rw c.in-Found.is (shows_found c.at.ensures)

pub returns-in-Missing : goal.returns-in-Missing
returns-in-Missing g c = rw c.in-Missing.is shows_missing

pub returns-in-Fails : goal.returns-in-Fails
returns-in-Fails g c = rw c.in-Fails.is shows_fails
