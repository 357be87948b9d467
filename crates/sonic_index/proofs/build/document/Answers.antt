use Rattle.std.proofs.lemmas.Result.{err_from_is_err_and}
use Rattle.sonic_find.proofs.DocumentLemmas.{reason_broken, reason_either}
use Rattle.sonic_index.proofs.build.document.Goals as goal

pub returns-in_err-written-clause-err : goal.returns-in_err-written-clause-err
returns-in_err-written-clause-err c =
    let p = err_from_is_err_and c.from_residual.result c.from_residual.ensures.1 in
    rw (p.1, p.2) (reason_either c.args.read.text c.args.is_bytes c.in_err-written.field-0.0 c.in_err-written.ensures.err)

pub returns-in_err-check-clause-err : goal.returns-in_err-check-clause-err
returns-in_err-check-clause-err c =
    let p = err_from_is_err_and c.from_residual-in_err-check.result c.from_residual-in_err-check.ensures.1 in
    let e = rw c.as_u8_slice-text.ensures.text at c.in_err-check.ensures.err in
    rw (p.1, p.2) (reason_broken c.in_ok-written.ensures.alone c.if-is_bytes.true e.0 e.1)
