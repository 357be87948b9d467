use Rattle.std.proofs.Common.{◌∙◌, arith, refl}
use Rattle.std.proofs.lemmas.Fmt.{decimal_digit, length-decimal-le}
use Rattle.sonic_lines.proofs.from_end.put_number.Goals as goal

pub returns-then-number-lt10-clause-text : goal.returns-then-number-lt10-clause-text
returns-then-number-lt10-clause-text c = c.put.ensures.text ∙ rw (c.put-at.ensures.text, decimal_digit c.args.number c.if-number-lt10.true) refl

pub write_digits-requires : goal.write_digits-requires
write_digits-requires c =
    let short = length-decimal-le 20 c.args.number (omega arith) (omega arith) (omega arith) in
    (omega (arith, short, c.put-at.ensures.start, c.requires.room), omega (arith, c.put-at.ensures.start, c.requires.inside))

pub returns-clause-near : goal.returns-clause-near
returns-clause-near c =
    let short = length-decimal-le 20 c.args.number (omega arith) (omega arith) (omega arith) in
    omega (arith, short, c.put-at.ensures.start, c.write_digits.ensures.start)
