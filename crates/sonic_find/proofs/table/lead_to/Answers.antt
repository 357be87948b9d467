use Rattle.sonic_find.proofs.table.lead_to.Goals as goal
use Rattle.std.proofs.Common.{◌∙◌, ap, sym}
use Rattle.sonic_find.specs.Cursors.{CursorState}

pub returns : goal.returns
returns g c =
    let leads = rw (c.checked-cursor.ensures, c.unscanned.ensures.text, c.unscanned.ensures.place, c.to_json_slice.ensures.bytes) at (c.in-Ok-true.ensures.leads c.in-Ok-true.field-0-test) in
    let same = rw (c.checked-cursor.ensures, c.unscanned.ensures.text, c.to_json_slice.ensures.bytes) at (ap (λ (s : CursorState). s.text) c.follow.ensures.moved) in
    record { leads = rw c.place-start.ensures.place leads; opens = rw (c.text.ensures, same) at (sym c.byte_at.ensures.value ∙ c.in_ok-kind.ensures) }
