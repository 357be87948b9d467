use Rattle.sonic_index.proofs.NodeLemmas.{part_one}
use Rattle.sonic_index.proofs.law.part_is_one.Goals as goal

pub returns : goal.returns
returns c = λ t i n x y. part_one
