use Rattle.std.proofs.Common.{false, refl, ◌∙◌}
use Rattle.sonic_find.proofs.HonestLemmas.{honest_of_invalid}
use Rattle.sonic_find.proofs.DocumentLemmas.{alone_part, reason_either, invalid_error, valid_but_memory}
use Rattle.sonic_lazy.proofs.document.from_str.Goals as goal

pub at-requires : goal.at-requires
at-requires c κs =
    let text = c.unscanned.ensures.text ∙ c.as_bytes-text.ensures.value in
    let alone = rw text at c.in-Ok.ensures.ok in
    let escaped = rw text at c.in-Ok.ensures.escaped in
    ((refl, tt), (alone_part c.utf8.json alone, escaped))

pub returns-in-Err-clause-err : goal.returns-in-Err-clause-err
returns-in-Err-clause-err c =
    let e = rw (c.unscanned.ensures.text ∙ c.as_bytes-text.ensures.value) at c.in-Err.ensures.err in
    invalid_error c.in-Err.fault (reason_either c.args.json.now false c.in-Err.fault e) (rw c.as_bytes-text.ensures.value at c.error.ensures)

pub returns-in-Err-clause-complete : goal.returns-in-Err-clause-complete
returns-in-Err-clause-complete c = λ valid.
    let e = rw (c.unscanned.ensures.text ∙ c.as_bytes-text.ensures.value) at c.in-Err.ensures.err in
    valid_but_memory valid (invalid_error c.in-Err.fault (reason_either c.args.json.now false c.in-Err.fault e) (rw c.as_bytes-text.ensures.value at c.error.ensures))

pub returns-in-Err-clause-honest : goal.returns-in-Err-clause-honest
returns-in-Err-clause-honest c =
    let e = rw (c.unscanned.ensures.text ∙ c.as_bytes-text.ensures.value) at c.in-Err.ensures.err in
    honest_of_invalid (invalid_error c.in-Err.fault (reason_either c.args.json.now false c.in-Err.fault e) (rw c.as_bytes-text.ensures.value at c.error.ensures))
