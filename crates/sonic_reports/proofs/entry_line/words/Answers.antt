use Rattle.std.proofs.Common.{◌≡◌, [], drop, arith, append-nil}
use Rattle.std.proofs.Math.ListN.{drop_of_length-le}
use Rattle.sonic_reports.proofs.entry_line.words.Goals as goal

pub returns-clause-text : goal.returns-clause-text
returns-clause-text c =
    let over : drop 192 c.args.room.now.line ≡ [] = drop_of_length-le c.args.room.now.line {i = 192} (omega arith) in
    rw (c.put_words.ensures.text, over) (append-nil _)
