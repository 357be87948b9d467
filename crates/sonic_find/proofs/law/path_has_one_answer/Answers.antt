use Rattle.sonic_find.proofs.GetLemmas.{get_answer_one}
use Rattle.sonic_find.proofs.law.path_has_one_answer.Goals as goal

-- an outcome comes to some answer, and to one
pub returns : goal.returns
returns c = get_answer_one
