use Rattle.std.proofs.Common.{◌≡◌, arith, refl}
use Rattle.sonic_text.proofs.HexDigitLemmas.{hex4_within, hex4_one}
use Rattle.sonic_text.proofs.StringReadingLemmas.{unicode_single}
use Rattle.sonic_text.proofs.unescape.unicode_at.Goals as goal

pub hex4_at-requires : goal.hex4_at-requires
hex4_at-requires c = omega (arith, hex4_within c.requires.1.2)

pub low_surrogate_at-requires : goal.low_surrogate_at-requires
low_surrogate_at-requires c = omega (arith, hex4_within c.requires.1.2)

pub returns-then-unit-gt56319-clause-one : goal.returns-then-unit-gt56319-clause-one
returns-then-unit-gt56319-clause-one c = λ m n q b e u.
    let k : n ≡ c.in-Some.unit = hex4_one e.2 c.in-Some.ensures.some in
    unicode_single (omega arith) (omega arith) (λ h. absurd (omega arith)) u

pub returns-in-None-clause-one : goal.returns-in-None-clause-one
returns-in-None-clause-one c = λ m n q b e u.
    let k : n ≡ c.in-Some.unit = hex4_one e.2 c.in-Some.ensures.some in
    unicode_single (omega arith) (omega arith) (λ h. c.in-None.ensures.none refl) u
