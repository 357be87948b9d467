use Rattle.sonic_value.proofs.DocumentLemmas.{unread_error, read_but_memory}
use Rattle.sonic_value.proofs.value.Value.from_slice.Goals as goal

pub returns-in-Err-clause-err : goal.returns-in-Err-clause-err
returns-in-Err-clause-err c = unread_error c.in-Err.fault c.in-Err.ensures.err c.error.ensures

pub returns-in-Err-clause-complete : goal.returns-in-Err-clause-complete
returns-in-Err-clause-complete c = λ valid shallow. read_but_memory valid shallow (unread_error c.in-Err.fault c.in-Err.ensures.err c.error.ensures)
