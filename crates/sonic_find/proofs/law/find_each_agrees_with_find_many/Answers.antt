use Rattle.sonic_find.proofs.law.find_each_agrees_with_find_many.Goals as goal
use Rattle.sonic_find.proofs.AnswerLemmas.Each.{each_of_spans, each_of_error}

pub returns-clause-spans : goal.returns-clause-spans
returns-clause-spans c = λ r t is_bytes paths entries x. each_of_spans x

pub returns-clause-error : goal.returns-clause-error
returns-clause-error c = λ r t is_bytes paths os s lead x. each_of_error lead x
