use Rattle.std.proofs.Common.{refl}
use Rattle.sonic_owned.proofs.Lent.{of_lent}
use Rattle.sonic_owned.proofs.value.reach.reach.Goals as goal

pub returns-in-Ok-clause-some : goal.returns-in-Ok-clause-some
returns-in-Ok-clause-some g c = record {
  part = c.in-Ok.part.now;
  left = c.f.new.arg2;
  change = record { shown = _; shows = refl; left = _; met = c.f.ensures; leaves = refl };
  put = of_lent _ c.in-Ok.is (c.lend_part.follows.holds c.f.new.arg2);
}
