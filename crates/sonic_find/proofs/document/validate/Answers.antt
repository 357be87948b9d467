use Rattle.sonic_find.proofs.document.validate.Goals as goal
use Rattle.sonic_find.proofs.HonestLemmas.{honest_of_invalid}
use Rattle.sonic_find.proofs.DocumentLemmas.{document_starts, invalid_error, valid_but_memory}

pub returns-in-Ok-clause-starts : goal.returns-in-Ok-clause-starts
returns-in-Ok-clause-starts g c = document_starts (rw (c.unscanned-read.ensures.text, c.to_json_slice.ensures.bytes) at c.in-Ok.ensures.ok)

pub returns-in-Err-clause-err : goal.returns-in-Err-clause-err
returns-in-Err-clause-err g c =
    let e = rw (c.unscanned-read.ensures.text, c.to_json_slice.ensures.bytes, c.need_utf8_valid.ensures) at c.in-Err.ensures.err in
    invalid_error c.in-Err.fault e (rw c.to_u8_slice-text.ensures.bytes at c.error.ensures)

pub returns-in-Err-clause-complete : goal.returns-in-Err-clause-complete
returns-in-Err-clause-complete g c = λ valid.
    let e = rw (c.unscanned-read.ensures.text, c.to_json_slice.ensures.bytes, c.need_utf8_valid.ensures) at c.in-Err.ensures.err in
    valid_but_memory valid (invalid_error c.in-Err.fault e (rw c.to_u8_slice-text.ensures.bytes at c.error.ensures))

pub returns-in-Err-clause-honest : goal.returns-in-Err-clause-honest
returns-in-Err-clause-honest g c =
    let e = rw (c.unscanned-read.ensures.text, c.to_json_slice.ensures.bytes, c.need_utf8_valid.ensures) at c.in-Err.ensures.err in
    honest_of_invalid (invalid_error c.in-Err.fault e (rw c.to_u8_slice-text.ensures.bytes at c.error.ensures))
