use Rattle.sonic_min.proofs.SpellingLemmas.{spelled_means}
use Rattle.sonic_min.proofs.law.spelling_means_one_tree.Goals as goal

pub returns : goal.returns
returns c = λ t u i j p q x v. spelled_means
