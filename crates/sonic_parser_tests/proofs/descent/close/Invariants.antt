use Rattle.std.proofs.Common.{length}
use Rattle.sonic_parser_tests.proofs.descent.close.Given as goal

abbrev pub decreases-containers : goal.decreases-containers
decreases-containers l = length l.walk.opened
