use Rattle.sonic_parser.proofs.DescentLemmas.{keeps_to, fails_as}
use Rattle.sonic_parser.proofs.law.a_walk_keeps_to_its_value.Goals as goal

pub returns-clause-keeps : goal.returns-clause-keeps
returns-clause-keeps c = keeps_to

pub returns-clause-fails : goal.returns-clause-fails
returns-clause-fails c = fails_as
