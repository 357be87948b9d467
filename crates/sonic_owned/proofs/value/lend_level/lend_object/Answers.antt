use Rattle.std.proofs.Common.{refl}
use Rattle.sonic_owned.proofs.ReachLemmas.{on_some}
use Rattle.sonic_owned.proofs.value.lend_level.lend_object.Goals as goal

pub returns : goal.returns
returns c = (
  (refl, (λ w _. on_some c.in-Some.is (c.object_level.follows.holds w)), tt),
  record { back = tt; found = rw c.in-Some.ensures.some at c.in-Ok.ensures.ok },
)
