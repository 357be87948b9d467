use Rattle.sonic_index.proofs.NodeLemmas.{part_inside}
use Rattle.sonic_index.proofs.law.parts_lie_inside.Goals as goal

pub returns : goal.returns
returns c = λ t i j n x. part_inside
