use Rattle.sonic_c.proofs.TextLemmas.{cells_written, refusal_call}
use Rattle.sonic_c.proofs.rows.jihluka_rows.Goals as goal
use Rattle.sonic_c.specs.Texts.{made_told}

pub returns-in-Ok : goal.returns-in-Ok
returns-in-Ok c =
    let rows = c.in-Ok.ensures in
    made_told c.in-Ok.rows.items rows.made c.write_bytes.ensures.status
    (cells_written c.args.room.now c.deref.ensures.value c.write_bytes.ensures.room c.write_bytes.ensures.wanted rows.kept)

pub returns-in-Err : goal.returns-in-Err
returns-in-Err c = refusal_call c.in-Err.ensures.refused
