use Rattle.std.proofs.Common.{refl}
use Rattle.std.specs.Prelude.{string_bytes}
use Rattle.sonic_c.proofs.TextLemmas.{cells_written, refusal_call, document_refused}
use Rattle.sonic_c.proofs.document.jihluka_minify.Goals as goal
use Rattle.sonic_c.specs.Texts.{made_told}

pub returns-in-Ok : goal.returns-in-Ok
returns-in-Ok c =
    let made = c.in-Ok.ensures in
    made_told (string_bytes c.in-Ok.text) (made.valid, made.ok) c.write_text.ensures.status
    (cells_written c.args.room.now c.as_str.ensures.value c.write_text.ensures.room c.write_text.ensures.wanted refl)

pub returns-in-Err : goal.returns-in-Err
returns-in-Err c = refusal_call (document_refused (λ x. x) c.in-Err.ensures.err c.tell.ensures)
