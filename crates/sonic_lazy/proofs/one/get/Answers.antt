use Rattle.sonic_lazy.proofs.one.get.Goals as goal
use Rattle.std.proofs.Common.{refl}
use Rattle.sonic_find.proofs.HonestLemmas.{honest_of_get}
use Rattle.sonic_find.proofs.GetLemmas.{part_alone, get_refusal, get_but_memory}

pub at-requires : goal.at-requires
at-requires g c κs =
    let answer = rw (c.unscanned-read.ensures.text, c.to_json_slice.ensures.bytes, c.need_utf8_valid.ensures) at c.in-Ok.ensures.ok in
    let value = rw (c.unscanned-read.ensures.text, c.to_json_slice.ensures.bytes) at c.in-Ok.ensures.value in
    let escaped = rw (c.unscanned-read.ensures.text, c.to_json_slice.ensures.bytes) at c.in-Ok.ensures.escaped in
    ((refl, tt), (part_alone g.I.JsonInput.is_bytes answer c.to_u8_slice-text.ensures.utf8 value, escaped))

pub returns-in-Ok-clause-lookup : goal.returns-in-Ok-clause-lookup
returns-in-Ok-clause-lookup g c =
    let answer = rw (c.unscanned-read.ensures.text, c.to_json_slice.ensures.bytes, c.need_utf8_valid.ensures) at c.in-Ok.ensures.ok in
    record { ok = record { start = _; end = _; answer = answer; shown = c.at.ensures }; err = tt; complete = λ _. tt }

pub returns-in-Err-clause-lookup : goal.returns-in-Err-clause-lookup
returns-in-Err-clause-lookup g c =
    let e = rw (c.unscanned-read.ensures.text, c.to_json_slice.ensures.bytes, c.need_utf8_valid.ensures) at c.in-Err.ensures.err in
    let refusal = get_refusal c.in-Err.fault e (rw c.to_u8_slice-text.ensures.bytes at c.error.ensures) in
    record { ok = tt; err = refusal; complete = λ can. get_but_memory can refusal }

pub returns-in-Err-clause-honest : goal.returns-in-Err-clause-honest
returns-in-Err-clause-honest g c =
    let e = rw (c.unscanned-read.ensures.text, c.to_json_slice.ensures.bytes, c.need_utf8_valid.ensures) at c.in-Err.ensures.err in
    honest_of_get (get_refusal c.in-Err.fault e (rw c.to_u8_slice-text.ensures.bytes at c.error.ensures))
