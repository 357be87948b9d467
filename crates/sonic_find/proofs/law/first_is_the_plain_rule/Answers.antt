use Rattle.sonic_find.proofs.PathLemmas.Compare.{under_first, from_first}
use Rattle.sonic_find.proofs.law.first_is_the_plain_rule.Goals as goal

-- clause by clause
pub returns : goal.returns
returns c = λ t i path o. (from_first path, under_first)
