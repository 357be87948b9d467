use Rattle.sonic_text.proofs.number.number_end.Goals as goal

pub returns-in-Err-clause-err : goal.returns-in-Err-clause-err
returns-in-Err-clause-err c = rw c.stop_at.ensures c.in-Err.ensures.err.1
