use Rattle.std.proofs.Common.{◌+◌, ◌-◌, inl, inr, arith, subst}
use Rattle.std.proofs.lemmas.Bool.{cases_lt}
use Rattle.sonic_text.specs.Internal.Reading.{IsInString}
use Rattle.sonic_text.proofs.ReadingLemmas.{left_after, past_left, past_block, past_char, closed}
use Rattle.sonic_text.proofs.string.pass_block.Goals as goal

pub returns-then-text-stop-eq34-clause-passed : goal.returns-then-text-stop-eq34-clause-passed
returns-then-text-stop-eq34-clause-passed c i s =
    let v = c.chars.invariant in
    let special = c.in-Some.ensures in
    let here = past_left v.later special v.bits c.in-Some-next_bit.ensures (v.fits i s) in
    closed c.if-text-stop-eq34.true (omega (arith, special.within, here.0)) here.1

pub returns-then-text-stop-ne92-clause-passed : goal.returns-then-text-stop-ne92-clause-passed
returns-then-text-stop-ne92-clause-passed c i s =
    let v = c.chars.invariant in
    (past_left v.later c.in-Some.ensures v.bits c.in-Some-next_bit.ensures (v.fits i s)).1

pub returns-in_default-escape_end-clause-passed : goal.returns-in_default-escape_end-clause-passed
returns-in_default-escape_end-clause-passed c i s =
    let v = c.chars.invariant in
    (past_left v.later c.in-Some.ensures v.bits c.in-Some-next_bit.ensures (v.fits i s)).1

pub chars-preserved : goal.chars-preserved
chars-preserved c =
    let v = c.chars.invariant in
    let f = c.in-Ok.ensures.ok in
    record {
      later = omega (arith, v.later, f.0);
      within = f.1;
      bits = left_after (c.in-Ok.end - c.chars.place) (omega (arith, v.later, f.0)) v.bits;
      fits = λ i s. past_char f.0 f.1 f.3 (past_left v.later c.in-Some.ensures v.bits c.in-Some-next_bit.ensures (v.fits i s)).1;
    }

pub returns-clause-passed : goal.returns-clause-passed
returns-clause-passed c i s =
    let v = c.chars.invariant in
    elim (cases_lt (c.args.base + 32) c.chars.place) [
      | inl beyond ↦ subst (λ q. IsInString c.args.lossy c.args.text.now i q) (omega (arith, c.max.ensures, beyond)) (v.fits i s)
      | inr within ↦
          subst (λ q. IsInString c.args.lossy c.args.text.now i q) (omega (arith, c.max.ensures, within))
          (past_block v.later within c.in-Some.ensures v.bits c.in_default-next_bit.ensures (v.fits i s))
    ]
