use Rattle.std.proofs.Common.{◌≡◌, ◌≢◌, ◌+◌, ◌<◌, arith, refl}
use Rattle.std.specs.Prelude.{unwrap_or}
use Rattle.sonic_text.specs.Places.{byte}
use Rattle.sonic_text.specs.Strings.{escaped}
use Rattle.sonic_text.proofs.EscapeFaultLemmas.{letter_missing}
use Rattle.sonic_text.proofs.EscapeLemmas.{escaped_some, escaped_nonzero, escaped_none, short_char}
use Rattle.sonic_text.proofs.string.escape_end.Goals as goal

pub returns-then-escaped_of-ne0-clause-ok : goal.returns-then-escaped_of-ne0-clause-ok
returns-then-escaped_of-ne0-clause-ok c =
    let letter = c.byte_at-letter.ensures in
    let some : 0 < unwrap_or (escaped (byte c.args.text.now (c.args.place + 1))) 0 = rw (← letter.value) (omega (arith, c.escaped_of.ensures, c.if-escaped_of-ne0.true)) in
    let later = escaped_nonzero _ some in
    let w = letter.within (omega (arith, later, letter.value)) in
    let (b, k) = short_char (escaped_some _ some) c.requires _ refl in
    (omega arith, omega arith, b, k)

pub returns-else-letter-eq117-clause-err : goal.returns-else-letter-eq117-clause-err
returns-else-letter-eq117-clause-err c =
    let letter = c.byte_at-letter.ensures in
    let none : unwrap_or (escaped (byte c.args.text.now (c.args.place + 1))) 0 ≡ 0 = rw (← letter.value) (omega (arith, c.escaped_of.ensures, c.if-escaped_of-ne0.false)) in
    let u : byte c.args.text.now (c.args.place + 1) ≢ 117 = omega (arith, letter.value, c.if-letter-eq117.false) in
    rw c.stop_at.ensures (letter_missing _ _ _ (escaped_none _ none) u)
