use Rattle.std.proofs.Common.{arith}
use Rattle.std.proofs.lemmas.Result.{err_from_is_err_and}
use Rattle.sonic_text.proofs.ReadingLemmas.{past_plain, past_char, closed, control_here, escape_here}
use Rattle.sonic_text.proofs.string.chars_end.Goals as goal

pub returns-then-byte-eq34-clause-ok : goal.returns-then-byte-eq34-clause-ok
returns-then-byte-eq34-clause-ok c i s =
    let plain = c.skip_plain-place.ensures in
    let inside = c.byte_at-byte.ensures.within (omega arith) in
    closed (omega (arith, c.byte_at-byte.ensures.value)) (omega (arith, inside)) (past_plain plain.later plain.within plain.plain (c.chars.invariant.fits i s))

pub returns-in_err-place-clause-err : goal.returns-in_err-place-clause-err
returns-in_err-place-clause-err c i s =
    let plain = c.skip_plain-place.ensures in
    let p = err_from_is_err_and c.from_residual.result c.from_residual.ensures.1 in
    rw (p.1, p.2) (escape_here (omega (arith, c.byte_at-byte.ensures.value)) c.in_err-place.ensures.err (past_plain plain.later plain.within plain.plain (c.chars.invariant.fits i s)))

pub chars-preserved : goal.chars-preserved
chars-preserved c =
    let plain = c.skip_plain-place.ensures in
    let f = c.in_ok-place.ensures.ok in
    record { within = f.1; fits = λ i s. past_char f.0 f.1 f.3 (past_plain plain.later plain.within plain.plain (c.chars.invariant.fits i s)) }

pub returns-then-byte-ne92-clause-err : goal.returns-then-byte-ne92-clause-err
returns-then-byte-ne92-clause-err c i s =
    let plain = c.skip_plain-place.ensures in
    let here = c.byte_at-byte.ensures.value in
    control_here plain.stop (λ e. omega (arith, here, e)) (λ e. omega (arith, here, e)) c.stop_at.ensures (past_plain plain.later plain.within plain.plain (c.chars.invariant.fits i s))
