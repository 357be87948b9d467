use Rattle.std.proofs.Common.{arith, refl}
use Rattle.sonic_text.proofs.HexDigitLemmas.{not_other, or_small, or_each, hex4_within}
use Rattle.sonic_text.proofs.hex.hex4_at.Goals as goal

pub returns-then-text-place-lt4-clause-none : goal.returns-then-text-place-lt4-clause-none
returns-then-text-place-lt4-clause-none c = λ e (n, h). omega (arith, hex4_within h)

pub returns-then-a-b-gt15-clause-none : goal.returns-then-a-b-gt15-clause-none
returns-then-a-b-gt15-clause-none c = λ e (n, h).
    let small = or_small c.digit_of-a.result c.digit_of-b.result c.digit_of-c.result c.digit_of-d.result (
      not_other _ _ _ h.first c.digit_of-a.ensures.other,
      not_other _ _ _ h.second c.digit_of-b.ensures.other,
      not_other _ _ _ h.third c.digit_of-c.ensures.other,
      not_other _ _ _ h.fourth c.digit_of-d.ensures.other,
    ) in
    omega (arith, small)

pub returns : goal.returns
returns c =
    let l = or_each c.digit_of-a.result c.digit_of-b.result c.digit_of-c.result c.digit_of-d.result (omega arith) in
    record {
      some = record {
        a = c.digit_of-a.result;
        b = c.digit_of-b.result;
        c = c.digit_of-c.result;
        d = c.digit_of-d.result;
        first = c.digit_of-a.ensures.digit l.0;
        second = c.digit_of-b.ensures.digit l.1;
        third = c.digit_of-c.ensures.digit l.2;
        fourth = c.digit_of-d.ensures.digit l.3;
        number = refl;
      };
      small = omega arith;
      none = λ h. absurd (cc);
    }
