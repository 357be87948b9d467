use Rattle.std.proofs.Common.{◌+◌, ◌-◌, length, arith}
use Rattle.std.proofs.lemmas.Slice.{drop-put_mid}
use Rattle.sonic_text.proofs.quote.put.Goals as goal

pub returns-clause-behind : goal.returns-clause-behind
returns-clause-behind c =
    let place = c.args.place in
    let end = place + length c.args.bytes.now in
    drop-put_mid place (end - place) c.args.dst.now c.copy_from_slice.new.self end (omega arith) (omega (arith, c.requires)) (omega arith)
