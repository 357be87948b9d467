use Rattle.std.proofs.Common.{◌≡◌, Bool, true, false, cond, refl, ◌∙◌, sym, ap}
use mir.Val.{bool_byte}
use Rattle.sonic_blocks.proofs.EscapeLemmas.{escaped_bits, escaped_carry, no_backslash_bits, no_backslash_before}
use Rattle.sonic_blocks.proofs.bits.get_escaped.Goals as goal

one_or_zero : (b : Bool) → bool_byte b ≡ cond b 1 0
one_or_zero true = refl
one_or_zero false = refl

pub returns-clause-bits : goal.returns-clause-bits
returns-clause-bits c =
    escaped_bits c.args.prev_escaped.now c.args.backslash c.requires c.ranges.backslash.fits c.overflowing_add-runs_from_even_bits.result.0 c.overflowing_add-runs_from_even_bits.ensures.value

pub returns-clause-carry : goal.returns-clause-carry
returns-clause-carry c =
    ap bool_byte
    (escaped_carry c.args.prev_escaped.now c.args.backslash c.requires c.ranges.backslash.fits c.overflowing_add-runs_from_even_bits.result.1 c.overflowing_add-runs_from_even_bits.ensures.overflow)
    ∙ one_or_zero _

pub returns-then-backslash-eq0-clause-bits : goal.returns-then-backslash-eq0-clause-bits
returns-then-backslash-eq0-clause-bits c = rw (c.if-backslash-eq0.true, c.replace.ensures.value) (no_backslash_bits c.args.prev_escaped.now c.requires)

pub returns-then-backslash-eq0-clause-carry : goal.returns-then-backslash-eq0-clause-carry
returns-then-backslash-eq0-clause-carry c =
    rw (c.if-backslash-eq0.true, c.replace.ensures.after) (ap (λ x. cond x 1 0) (sym (no_backslash_before c.args.prev_escaped.now 63)))
