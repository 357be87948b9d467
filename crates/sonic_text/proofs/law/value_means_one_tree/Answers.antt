use Rattle.sonic_text.proofs.TreeLemmas.{tree_of, value_of, means_one}
use Rattle.sonic_text.proofs.law.value_means_one_tree.Goals as goal

pub returns-clause-means : goal.returns-clause-means
returns-clause-means c = λ t i j. (λ h. tree_of h, λ x. value_of x.1)

pub returns-clause-one_tree : goal.returns-clause-one_tree
returns-clause-one_tree c = λ t i j k x y. means_one
