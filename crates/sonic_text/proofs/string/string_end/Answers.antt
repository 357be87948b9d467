use Rattle.std.proofs.Common.{refl, arith}
use Rattle.std.proofs.lemmas.Result.{err_from_is_err_and}
use Rattle.sonic_text.proofs.ReadingLemmas.{opened, past_plain, closed, control_here, none_escaped, some_escaped}
use Rattle.sonic_text.proofs.string.string_end.Goals as goal

pub returns-then-byte-eq34-clause-ok : goal.returns-then-byte-eq34-clause-ok
returns-then-byte-eq34-clause-ok c =
    let plain = c.skip_plain-place.ensures in
    let inside = c.byte_at-byte.ensures.within (omega arith) in
    closed (omega (arith, c.byte_at-byte.ensures.value)) (omega (arith, inside)) (past_plain plain.later plain.within plain.plain (opened c.requires))

pub returns-then-byte-eq34-clause-escaped : goal.returns-then-byte-eq34-clause-escaped
returns-then-byte-eq34-clause-escaped c = (λ e. absurd (cc), λ h. absurd (none_escaped c.args.text.now c.skip_plain-place.ensures.plain h))

pub returns-then-byte-ne92-clause-err : goal.returns-then-byte-ne92-clause-err
returns-then-byte-ne92-clause-err c =
    let plain = c.skip_plain-place.ensures in
    let here = c.byte_at-byte.ensures.value in
    control_here plain.stop (λ e. omega (arith, here, e)) (λ e. omega (arith, here, e)) c.stop_at.ensures (past_plain plain.later plain.within plain.plain (opened c.requires))

pub returns-in_err-end-clause-err : goal.returns-in_err-end-clause-err
returns-in_err-end-clause-err c =
    let plain = c.skip_plain-place.ensures in
    let p = err_from_is_err_and c.from_residual.result c.from_residual.ensures.1 in
    rw (p.1, p.2) (c.in_err-end.ensures.err c.args.start (past_plain plain.later plain.within plain.plain (opened c.requires)))

pub returns-clause-ok : goal.returns-clause-ok
returns-clause-ok c =
    let plain = c.skip_plain-place.ensures in
    c.in_ok-end.ensures.ok c.args.start (past_plain plain.later plain.within plain.plain (opened c.requires))

pub returns-clause-escaped : goal.returns-clause-escaped
returns-clause-escaped c =
    let plain = c.skip_plain-place.ensures in
    let ends = c.in_ok-end.ensures.ok c.args.start (past_plain plain.later plain.within plain.plain (opened c.requires)) in
    (λ e. some_escaped plain.later plain.plain (omega (arith, c.byte_at-byte.ensures.value)) ends, λ h. refl)
