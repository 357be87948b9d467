use Rattle.std.proofs.Common.{◌≡◌, [], drop, arith, refl}
use Rattle.std.proofs.Math.ListN.{drop_of_length-le}
use Rattle.sonic_reports.proofs.text_line.value_line.Goals as goal

pub returns-clause-text : goal.returns-clause-text
returns-clause-text c =
    let over : drop 192 c.args.room.now ≡ [] = drop_of_length-le c.args.room.now {i = 192} (omega arith) in
    rw (c.put_counted.ensures.text, c.put-at.ensures.text, over) refl
