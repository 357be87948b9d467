use Rattle.sonic_index.proofs.NodeLemmas.{part_before}
use Rattle.sonic_index.proofs.law.parts_are_in_order.Goals as goal

pub returns : goal.returns
returns c = λ t i n m x y. part_before
