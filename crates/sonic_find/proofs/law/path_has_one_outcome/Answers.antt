use Rattle.sonic_find.proofs.law.path_has_one_outcome.Goals as goal
use Rattle.sonic_find.proofs.PathLemmas.Outcome.{by_exactly_one}

-- a path leads to some outcome, and to one
pub returns : goal.returns
returns c = by_exactly_one
