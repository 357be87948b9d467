use Rattle.sonic_find.proofs.answer.locate_in.Goals as goal
use Rattle.sonic_find.proofs.AnswerLemmas.Cause.{only_out}
use Rattle.sonic_parser.proofs.FaultLemmas.{stop_weaker}

pub returns-in-Err-clause-err : goal.returns-in-Err-clause-err
returns-in-Err-clause-err g c = stop_weaker c.in-Err.fault (λ s e. e.answer) c.in-Err.ensures.err

pub returns-in-Err-clause-complete : goal.returns-in-Err-clause-complete
returns-in-Err-clause-complete g c = λ can. only_out c.in-Err.fault can c.in-Err.ensures.err
