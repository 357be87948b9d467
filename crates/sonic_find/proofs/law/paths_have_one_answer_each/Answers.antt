use Rattle.sonic_find.proofs.law.paths_have_one_answer_each.Goals as goal
use Rattle.sonic_find.proofs.AnswerLemmas.Each.{each_answer_one}

pub returns : goal.returns
returns c = λ r t is_bytes paths. each_answer_one r t is_bytes paths
