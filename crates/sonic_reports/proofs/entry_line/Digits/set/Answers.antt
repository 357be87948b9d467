use Rattle.std.proofs.Common.{◌≡◌, ◌∙◌, ◌+◌, [], decimal, drop, append-nil, arith}
use Rattle.std.proofs.Math.ListN.{drop_of_length-le}
use Rattle.std.proofs.lemmas.Fmt.{length-decimal-le}
use Rattle.sonic_reports.proofs.DigitLemmas.{counted_on}
use Rattle.sonic_reports.proofs.entry_line.Digits.set.Goals as goal

pub write_digits-self-requires : goal.write_digits-self-requires
write_digits-self-requires c = (length-decimal-le 20 c.args.number (omega arith) (omega arith) (omega arith), omega arith)

pub invariant_of-self : goal.invariant_of-self
invariant_of-self c =
    let self = c.args.self.now in
    let next : c.args.number ≡ self.number + 1 = omega (arith, c.if-number-saturating_add.true, c.saturating_add.ensures, c.if-number-self.false) in
    record { within = self.within; digits = rw next (counted_on self.room self.start self.number (omega arith) self.digits c.if-self-lt57.true (omega (arith, next))) }

pub invariant_of-self-2 : goal.invariant_of-self-2
invariant_of-self-2 c =
    let w = c.write_digits-self.ensures in
    let over : drop 20 c.args.self.now.room ≡ [] = drop_of_length-le c.args.self.now.room {i = 20} (omega arith) in
    record { within = omega (arith, w.start); digits = w.written ∙ rw over (append-nil (decimal c.args.number)) }
