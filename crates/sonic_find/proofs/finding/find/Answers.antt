use Rattle.sonic_find.proofs.HonestLemmas.{honest_of_get}
use Rattle.sonic_find.proofs.GetLemmas.{get_refusal, get_but_memory}
use Rattle.sonic_find.proofs.finding.find.Goals as goal

pub returns-in-Ok-clause-finding : goal.returns-in-Ok-clause-finding
returns-in-Ok-clause-finding g c =
    let answer = rw (c.unscanned-read.ensures.text, c.to_json_slice.ensures.bytes, c.need_utf8_valid.ensures) at c.in-Ok.ensures.ok in
    record { ok = answer; err = tt; complete = λ _. tt }

pub returns-in-Err-clause-finding : goal.returns-in-Err-clause-finding
returns-in-Err-clause-finding g c =
    let e = rw (c.unscanned-read.ensures.text, c.to_json_slice.ensures.bytes, c.need_utf8_valid.ensures) at c.in-Err.ensures.err in
    let refusal = get_refusal c.in-Err.fault e (rw c.to_u8_slice-text.ensures.bytes at c.error.ensures) in
    record { ok = tt; err = refusal; complete = λ can. get_but_memory can refusal }

pub returns-in-Err-clause-honest : goal.returns-in-Err-clause-honest
returns-in-Err-clause-honest g c =
    let e = rw (c.unscanned-read.ensures.text, c.to_json_slice.ensures.bytes, c.need_utf8_valid.ensures) at c.in-Err.ensures.err in
    honest_of_get (get_refusal c.in-Err.fault e (rw c.to_u8_slice-text.ensures.bytes at c.error.ensures))
