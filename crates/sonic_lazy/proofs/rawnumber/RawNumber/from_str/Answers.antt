use Rattle.sonic_lazy.proofs.RawNumberLemmas.{number_error, number_but_memory}
use Rattle.sonic_lazy.proofs.rawnumber.RawNumber.from_str.Goals as goal

pub returns-in-Err-clause-err : goal.returns-in-Err-clause-err
returns-in-Err-clause-err c = number_error c.in-Err.fault (rw c.as_bytes.ensures.value at c.in-Err.ensures.err) (rw c.as_bytes-in-Err.ensures.value at c.error.ensures)

pub returns-in-Err-clause-complete : goal.returns-in-Err-clause-complete
returns-in-Err-clause-complete c = λ n document.
    let error = number_error c.in-Err.fault (rw c.as_bytes.ensures.value at c.in-Err.ensures.err) (rw c.as_bytes-in-Err.ensures.value at c.error.ensures) in
    number_but_memory document error

pub returns-in-Ok-new-clause-ok : goal.returns-in-Ok-new-clause-ok
returns-in-Ok-new-clause-ok c = rw c.in-Ok-new.ensures.ok (rw c.as_bytes.ensures.value at c.in-Ok.ensures.ok)
