use Rattle.std.proofs.Common.{◌∙◌, sym, refl, ap, ◌+◌, length}
use Rattle.std.proofs.lemmas.List.{length-map}
use Rattle.sonic_c.proofs.edit.edits_of.Goals as goal
use Rattle.sonic_c.specs.Changes.{blank_edit}
use Rattle.sonic_c.specs.Internal.Texts.{refuses}
use Rattle.sonic_edits.specs.Edits.{edit_of}

pub returns-then-end-lines-clause-refused : goal.returns-then-end-lines-clause-refused
returns-then-end-lines-clause-refused c =
    let says = rw c.in-Edits.is at c.in-Ok.ensures in
    let count = ap length c.as_slice.ensures.value ∙ sym (length-map c.in-Edits.edits.items edit_of) in
    refuses (record { number = length c.as_slice.result.now + 1; bad = blank_edit says c.if-end-lines.true (rw count refl); told = c.at_line-then-end-lines.ensures; says = refl })
