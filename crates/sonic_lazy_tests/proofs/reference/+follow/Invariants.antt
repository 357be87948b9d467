use Rattle.std.proofs.Common.{length}
use Rattle.sonic_lazy_tests.proofs.reference.+follow.Given as goal

abbrev pub decreases-follow : goal.decreases-follow
decreases-follow l = length l.path.now
