use Rattle.std.proofs.Common.{arith}
use Rattle.std.proofs.lemmas.Fmt.{length-decimal-le}
use Rattle.sonic_reports.proofs.entry_line.put_label.Goals as goal

pub write_digits-at-requires : goal.write_digits-at-requires
write_digits-at-requires c =
    let short = length-decimal-le 20 c.in-At.number (omega arith) (omega arith) (omega arith) in
    (omega (arith, short, c.requires.room), omega (arith, c.requires.inside))

pub put-requires-in-At-clause-room : goal.put-requires-in-At-clause-room
put-requires-in-At-clause-room c =
    let short = length-decimal-le 20 c.in-At.number (omega arith) (omega arith) (omega arith) in
    omega (arith, short, c.requires.room, c.write_digits-at.ensures.start)

pub returns-in-At-clause-near : goal.returns-in-At-clause-near
returns-in-At-clause-near c =
    let short = length-decimal-le 20 c.in-At.number (omega arith) (omega arith) (omega arith) in
    omega (arith, short, c.write_digits-at.ensures.start, c.put-in-At.ensures.start)
