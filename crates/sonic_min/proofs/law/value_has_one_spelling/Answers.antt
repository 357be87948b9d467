use Rattle.sonic_text.proofs.Values.{value_end_one}
use Rattle.sonic_min.proofs.SpellingLemmas.{spelling_of, spelled_value, spelled_one}
use Rattle.sonic_min.proofs.law.value_has_one_spelling.Goals as goal

pub returns-clause-spelled : goal.returns-clause-spelled
returns-clause-spelled c = λ t i j. (λ x. spelling_of x, λ x. spelled_value x.1)

pub returns-clause-one : goal.returns-clause-one
returns-clause-one c = λ t i j k x y a b. (value_end_one (spelled_value a) (spelled_value b), spelled_one a b)
