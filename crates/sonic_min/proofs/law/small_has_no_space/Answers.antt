use Rattle.sonic_min.proofs.KeptLemmas.{space_inside}
use Rattle.sonic_min.proofs.law.small_has_no_space.Goals as goal

pub returns : goal.returns
returns c = λ t x. space_inside
