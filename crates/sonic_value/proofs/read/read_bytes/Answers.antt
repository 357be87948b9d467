use Rattle.std.proofs.Common.{true, refl}
use Rattle.std.proofs.lemmas.Result.{err_from_is_err_and, IfOk-weaker, IfErr-weaker}
use Rattle.sonic_parser.proofs.FaultLemmas.{stop_weaker}
use Rattle.sonic_value.proofs.DocumentLemmas.{document_read, broken_unread}
use Rattle.sonic_value.proofs.read.read_bytes.Goals as goal

pub returns-in-Ok-clause-ok : goal.returns-in-Ok-clause-ok
returns-in-Ok-clause-ok c = IfOk-weaker c.read_document.result _ _ (λ made read. document_read read refl c.in-Ok.ensures.cases.1) c.read_document.ensures.ok

pub returns-in-Ok-clause-err : goal.returns-in-Ok-clause-err
returns-in-Ok-clause-err c = IfErr-weaker c.read_document.result _ _ (λ fault h. stop_weaker fault (λ s f. f true) h) c.read_document.ensures.err

pub returns-in_err-read_document-in-Err-clause-err : goal.returns-in_err-read_document-in-Err-clause-err
returns-in_err-read_document-in-Err-clause-err c =
    let p = err_from_is_err_and c.from_residual.result c.from_residual.ensures.1 in
    rw (p.1, p.2) (stop_weaker c.in_err-read_document-in-Err.field-0.0 (λ s f. f true) c.in_err-read_document-in-Err.ensures.err)

pub returns-in_ok-read_document-in-Err-clause-err : goal.returns-in_ok-read_document-in-Err-clause-err
returns-in_ok-read_document-in-Err-clause-err c =
    rw (c.valid_up_to-place.ensures, c.in-Err.ensures.valid_len) (broken_unread c.in_ok-read_document-in-Err.ensures.ok c.in-Err.ensures.cases.0)
