use Rattle.sonic_index.proofs.NodeLemmas.{node_one, nodes_nested}
use Rattle.sonic_index.proofs.law.nodes_nest.Goals as goal

pub returns-clause-one : goal.returns-clause-one
returns-clause-one c = λ t i j k. node_one

pub returns-clause-nest : goal.returns-clause-nest
returns-clause-nest c = λ t i j p q. nodes_nested
