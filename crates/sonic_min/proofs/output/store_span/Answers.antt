use Rattle.std.proofs.Common.{take, arith, sym}
use Rattle.std.proofs.lemmas.List.{length-take-le, take-take}
use Rattle.sonic_min.proofs.OutputLemmas.{lanes_stored}
use Rattle.sonic_min.proofs.output.store_span.Goals as goal

pub returns-then-bytes-ge32 : goal.returns-then-bytes-ge32
returns-then-bytes-ge32 c =
    let bytes = c.args.bytes.now in
    let count = c.args.count in
    lanes_stored c.args.room.now (take 32 bytes) (take count bytes) c.args.at count (length-take-le 32 bytes (omega arith)) (omega arith) c.requires.room
    (sym (take-take count 32 bytes (omega arith)))
