use Rattle.std.specs.Prelude.{string_bytes}
use Rattle.sonic_c.proofs.TextLemmas.{cells_written, refusal_call}
use Rattle.sonic_c.proofs.edit.jihluka_edit.Goals as goal
use Rattle.sonic_c.specs.Texts.{made_told}

pub returns-in-Ok : goal.returns-in-Ok
returns-in-Ok c =
    let text = c.in-Ok.ensures in
    made_told (string_bytes c.in-Ok.text) text.made c.write_text.ensures.status
    (cells_written c.args.room.now c.as_str.ensures.value c.write_text.ensures.room c.write_text.ensures.wanted text.kept)

pub returns-in-Err : goal.returns-in-Err
returns-in-Err c = refusal_call c.in-Err.ensures.refused
