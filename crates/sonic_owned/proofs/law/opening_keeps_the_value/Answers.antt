use Rattle.sonic_owned.proofs.KeptTextLemmas.{opened_alike}
use Rattle.sonic_owned.proofs.OpeningLemmas.{opened_means}
use Rattle.sonic_owned.proofs.law.opening_keeps_the_value.Goals as goal

pub returns-clause-tree : goal.returns-clause-tree
returns-clause-tree c = λ f g x. opened_means

pub returns-clause-paths : goal.returns-clause-paths
returns-clause-paths c = λ f g h node rest is. let alike = opened_alike is in (alike.on h, alike.back h)
