use Rattle.sonic_find.proofs.AnswerLemmas.Agree.{answers_agree}
use Rattle.sonic_find.proofs.law.get_many_agrees_with_get.Goals as goal

-- the outcomes say so of both
pub returns : goal.returns
returns c = answers_agree
