use Rattle.std.proofs.Common.{◌∙◌, arith, sym}
use Rattle.sonic_find.proofs.HonestLemmas.{honest_of_invalid}
use Rattle.sonic_find.proofs.DocumentLemmas.{invalid_error, valid_but_memory}
use Rattle.sonic_index.proofs.KeptLemmas.{document_kept}
use Rattle.sonic_index.proofs.MemberPathLemmas.{cells_few, cells_linked}
use Rattle.sonic_index.proofs.index.JsonIndex.build.Goals as goal

pub order_wide-requires-clause-short : goal.order_wide-requires-clause-short
order_wide-requires-clause-short g c =
    let same = c.unscanned-read.ensures.text ∙ c.to_json_slice.ensures.bytes in
    let entries = document_kept _ c.in-Ok.written.cells.items (rw same at c.in-Ok.ensures.valid) (rw same at c.in-Ok.ensures.kept) in
    rw c.as_slice.ensures.value (omega (arith, cells_few _ c.in-Ok.written.cells.items entries, rw same at c.in-Ok.ensures.short))

pub order_wide-requires-clause-linked : goal.order_wide-requires-clause-linked
order_wide-requires-clause-linked g c =
    let same = c.unscanned-read.ensures.text ∙ c.to_json_slice.ensures.bytes in
    let entries = document_kept _ c.in-Ok.written.cells.items (rw same at c.in-Ok.ensures.valid) (rw same at c.in-Ok.ensures.kept) in
    rw (c.to_u8_slice-text.ensures.bytes, c.as_slice.ensures.value) (cells_linked _ c.in-Ok.written.cells.items entries)

pub returns-in-Err-clause-err : goal.returns-in-Err-clause-err
returns-in-Err-clause-err g c =
    let e = rw (c.unscanned-read.ensures.text, c.to_json_slice.ensures.bytes, c.need_utf8_valid.ensures) at c.in-Err.ensures.err in
    invalid_error c.in-Err.fault e (rw c.to_u8_slice-text.ensures.bytes at c.error.ensures)

pub returns-in-Err-clause-complete : goal.returns-in-Err-clause-complete
returns-in-Err-clause-complete g c = λ valid.
    let e = rw (c.unscanned-read.ensures.text, c.to_json_slice.ensures.bytes, c.need_utf8_valid.ensures) at c.in-Err.ensures.err in
    valid_but_memory valid (invalid_error c.in-Err.fault e (rw c.to_u8_slice-text.ensures.bytes at c.error.ensures))

pub returns-in-Err-clause-honest : goal.returns-in-Err-clause-honest
returns-in-Err-clause-honest g c =
    let e = rw (c.unscanned-read.ensures.text, c.to_json_slice.ensures.bytes, c.need_utf8_valid.ensures) at c.in-Err.ensures.err in
    honest_of_invalid (invalid_error c.in-Err.fault e (rw c.to_u8_slice-text.ensures.bytes at c.error.ensures))

pub invariant_of-result : goal.invariant_of-result
invariant_of-result g c =
    let bytes = sym c.to_json_slice-in-Ok-order_wide.ensures.bytes in
    let same = c.unscanned-read.ensures.text ∙ c.to_json_slice.ensures.bytes ∙ bytes in
    let valid = rw same at c.in-Ok.ensures.valid in
    let kept = rw same at c.in-Ok.ensures.kept in
    record {
      valid = valid;
      short = rw same at c.in-Ok.ensures.short;
      entries = document_kept _ c.in-Ok.written.cells.items valid kept;
      members = rw (c.to_u8_slice-text.ensures.bytes ∙ bytes, c.as_slice.ensures.value) at c.in-Ok-order_wide.ensures;
    }

pub returns-in-Ok-order_wide-clause-ok : goal.returns-in-Ok-order_wide-clause-ok
returns-in-Ok-order_wide-clause-ok g c =
    let same = c.unscanned-read.ensures.text ∙ c.to_json_slice.ensures.bytes in
    let bytes = c.to_json_slice-in-Ok-order_wide.ensures.bytes in
    let entries = document_kept _ c.in-Ok.written.cells.items (rw same at c.in-Ok.ensures.valid) (rw same at c.in-Ok.ensures.kept) in
    (bytes, rw bytes entries)
