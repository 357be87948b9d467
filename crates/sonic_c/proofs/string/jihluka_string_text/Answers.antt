use Rattle.std.proofs.Common.{refl}
use Rattle.std.specs.Cow.{cow_str_bytes}
use Rattle.sonic_c.proofs.BegunLemmas.{refusal_told}
use Rattle.sonic_c.proofs.TextLemmas.{cells_written}
use Rattle.sonic_c.proofs.string.jihluka_string_text.Goals as goal
use Rattle.sonic_c.specs.Values.{text_told, text_unknown, string_refused}

pub returns-in-Err : goal.returns-in-Err
returns-in-Err c = string_refused (refusal_told c.in-Err.refusal c.in-Err.ensures.err c.refuse.ensures) refl refl

pub returns-in-Err-text : goal.returns-in-Err-text
returns-in-Err-text c = text_unknown c.in-Ok.string.start c.in-Ok.string.end c.in-Ok.ensures.alone c.in-Err-text.ensures.memory refl refl

pub returns-in-Ok-text : goal.returns-in-Ok-text
returns-in-Ok-text c =
    let string = c.in-Ok.ensures in
    text_told (cow_str_bytes c.in-Ok-text.text)
    (record { start = c.in-Ok.string.start; end = c.in-Ok.string.end; alone = string.alone; string = c.in-Ok-text.ensures.ok.string; utf8 = string.utf8 })
    c.write_text.ensures.status (cells_written c.args.room.now c.as_str.ensures.value c.write_text.ensures.room c.write_text.ensures.wanted refl)
