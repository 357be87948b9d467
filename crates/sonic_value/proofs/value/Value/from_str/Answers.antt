use Rattle.std.proofs.Common.{false, refl}
use Rattle.sonic_parser.proofs.FaultLemmas.{stop_weaker}
use Rattle.sonic_value.proofs.DocumentLemmas.{document_read, unread_error, read_but_memory}
use Rattle.sonic_value.proofs.value.Value.from_str.Goals as goal

pub returns-in-Ok-clause-ok : goal.returns-in-Ok-clause-ok
returns-in-Ok-clause-ok c = document_read (rw c.as_bytes-text.ensures.value at c.in-Ok.ensures.ok) refl c.utf8.json

pub returns-in-Err-clause-err : goal.returns-in-Err-clause-err
returns-in-Err-clause-err c =
    let stop = rw c.as_bytes-text.ensures.value at c.in-Err.ensures.err in
    let error = rw c.as_bytes-text.ensures.value at c.error.ensures in
    unread_error c.in-Err.fault (stop_weaker c.in-Err.fault (λ s f. f false) stop) error

pub returns-in-Err-clause-complete : goal.returns-in-Err-clause-complete
returns-in-Err-clause-complete c = λ valid shallow.
    let stop = rw c.as_bytes-text.ensures.value at c.in-Err.ensures.err in
    let error = rw c.as_bytes-text.ensures.value at c.error.ensures in
    read_but_memory valid shallow (unread_error c.in-Err.fault (stop_weaker c.in-Err.fault (λ s f. f false) stop) error)
