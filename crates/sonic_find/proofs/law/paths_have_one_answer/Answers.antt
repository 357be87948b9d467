use Rattle.sonic_find.proofs.law.paths_have_one_answer.Goals as goal
use Rattle.sonic_find.proofs.AnswerLemmas.One.{answer_by_one}

-- outcomes come to some answer, and to one
pub returns : goal.returns
returns c = answer_by_one
