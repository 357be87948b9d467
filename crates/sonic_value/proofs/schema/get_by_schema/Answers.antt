use Rattle.std.proofs.Common.{sym, ◌∙◌}
use Rattle.sonic_parser.proofs.FaultLemmas.{stop_weaker}
use Rattle.sonic_value.proofs.UnfilledLemmas.{unfilled_for, fill_error, down_of}
use Rattle.sonic_value.proofs.schema.get_by_schema.Goals as goal

-- what came as text is UTF-8
pub fill_document-requires-clause-utf8 : goal.fill_document-requires-clause-utf8
fill_document-requires-clause-utf8 g c = λ e.
    let text = sym c.need_utf8_valid-utf8.ensures ∙ down_of c.need_utf8_valid-utf8.result e in
    rw c.to_u8_slice-text.ensures.bytes (c.to_u8_slice-text.ensures.utf8 text)

pub returns-in-Ok-clause-ok : goal.returns-in-Ok-clause-ok
returns-in-Ok-clause-ok g c = rw c.to_u8_slice-text.ensures.bytes at c.in-Ok.ensures.ok

pub returns-in-Err-clause-err : goal.returns-in-Err-clause-err
returns-in-Err-clause-err g c =
    let stop = rw c.to_u8_slice-text.ensures.bytes at c.in-Err.ensures.err in
    let error = rw c.to_u8_slice-text.ensures.bytes at c.error.ensures in
    fill_error c.in-Err.fault (stop_weaker c.in-Err.fault (λ s u. unfilled_for s _ c.to_u8_slice-text.ensures.utf8 u) stop) error
