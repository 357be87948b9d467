use Rattle.std.proofs.Common.{refl, arith}
use Rattle.sonic_text.proofs.ReadingLemmas.{opened, past_plain, closed, control_here}
use Rattle.sonic_text.proofs.string.skip_string.Goals as goal

pub returns-then-byte-eq34-clause-some : goal.returns-then-byte-eq34-clause-some
returns-then-byte-eq34-clause-some c =
    let plain = c.skip_plain-place.ensures in
    let inside = c.byte_at-byte.ensures.within (omega arith) in
    closed (omega (arith, c.byte_at-byte.ensures.value)) (omega (arith, inside)) (past_plain plain.later plain.within plain.plain (opened c.requires))

pub returns-then-byte-ne92-clause-none : goal.returns-then-byte-ne92-clause-none
returns-then-byte-ne92-clause-none c none =
    let plain = c.skip_plain-place.ensures in
    let here = c.byte_at-byte.ensures.value in
    (_, control_here plain.stop (λ e. omega (arith, here, e)) (λ e. omega (arith, here, e)) refl (past_plain plain.later plain.within plain.plain (opened c.requires)))

pub returns-clause-some : goal.returns-clause-some
returns-clause-some c =
    let plain = c.skip_plain-place.ensures in
    c.skip_rest.ensures.some c.args.start (past_plain plain.later plain.within plain.plain (opened c.requires))

pub returns-clause-none : goal.returns-clause-none
returns-clause-none c =
    let plain = c.skip_plain-place.ensures in
    c.skip_rest.ensures.none c.args.start (past_plain plain.later plain.within plain.plain (opened c.requires))
